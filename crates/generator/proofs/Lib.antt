mod WorkedFiles
