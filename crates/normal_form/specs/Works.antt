-- Forms while they are sorted: what the code's trees stand for.
use Rattle.std.specs.Prelude.{Bool, true, false, List, [], ◌∷◌, ◌++◌, Option, Some, None}
use Rattle.normal_form.specs.Forms.{Form}
use Rattle.normal_form.specs.Sorting.{Numbered, all, and, bare, ex, lit, no, or, sorted, yes}
use Rattle.normal_form.specs.declared.work.Work.{Work, Work-F, fold-Work}
use Rattle.normal_form.specs.declared.work.Work.TheOpen as work

-- the numbered form of a tree, from those of its parts
abbrev pub numbered_at : Work-F Numbered → Numbered
numbered_at work.True = yes
numbered_at work.False = no
numbered_at (work.Lit literal) = lit literal
numbered_at (work.And a b) = and a b
numbered_at (work.Or a b) = or a b
numbered_at (work.All number a) = all number a
numbered_at (work.Ex number a) = ex number a

-- the numbered form of the tree
abbrev pub numbered_of : Work → Numbered
numbered_of = fold-Work Numbered numbered_at

-- the form of the tree
abbrev pub bare_of : Work → Form
bare_of work = bare (numbered_of work)

-- And, or Or
abbrev pub join_of : Bool → Numbered → Numbered → Numbered
join_of true = and
join_of false = or

-- the sorted members of the largest chain of And, or of Or, at the top of a form that isn't sorted
abbrev pub sorted_members : Bool → Numbered → List Numbered
sorted_members true (and a b) = sorted_members true a ++ sorted_members true b
sorted_members false (or a b) = sorted_members false a ++ sorted_members false b
sorted_members both a = sorted a ∷ []

-- the form so far, where there is one, joined with one more member
abbrev pub extended : Bool → Option Work → Work → Numbered
extended both None member = numbered_of member
extended both (Some form) member = join_of both (numbered_of form) (numbered_of member)
