-- The names of the prelude's symbols.
use Rattle.std.specs.Prelude.{ℕ, List, codes}

abbrev pub i_name : List ℕ
i_name = codes "I"

abbrev pub prop_name : List ℕ
prop_name = codes "Prop"

abbrev pub prf_name : List ℕ
prf_name = codes "Prf"

abbrev pub imp_name : List ℕ
imp_name = codes "imp"

abbrev pub and_name : List ℕ
and_name = codes "and"

abbrev pub or_name : List ℕ
or_name = codes "or"

abbrev pub iff_name : List ℕ
iff_name = codes "iff"

abbrev pub not_name : List ℕ
not_name = codes "not"

abbrev pub top_name : List ℕ
top_name = codes "top"

abbrev pub bot_name : List ℕ
bot_name = codes "bot"

abbrev pub all_name : List ℕ
all_name = codes "all"

abbrev pub ex_name : List ℕ
ex_name = codes "ex"

abbrev pub any_name : List ℕ
any_name = codes "any"

abbrev pub em_name : List ℕ
em_name = codes "em"
