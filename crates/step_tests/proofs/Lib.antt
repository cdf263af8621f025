mod NodeNames
