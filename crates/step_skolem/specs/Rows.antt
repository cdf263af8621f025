-- Rows of existentials.
use Rattle.std.specs.Prelude.{ℕ, suc}
use Rattle.normal_form.specs.Forms.{all, and, ex, Form, lit, no, or, yes}

-- how many existentials stand in a row at the front of the form
abbrev pub run : Form → ℕ
run yes = 0
run no = 0
run (lit literal) = 0
run (and a b) = 0
run (or a b) = 0
run (all a) = 0
run (ex a) = suc (run a)
