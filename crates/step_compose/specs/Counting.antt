-- The sizes of full images' clause lists, counted along the form.
use Rattle.std.specs.Prelude.{ℕ, ◌+◌, ◌*◌}
use Rattle.normal_form.specs.Forms.{all, and, ex, Form, lit, no, or, yes}

-- the numbers of clauses and of their literals of the form with each existential replaced
abbrev pub full_totals : Form → ℕ × ℕ
full_totals yes = (0, 0)
full_totals no = (1, 0)
full_totals (lit literal) = (1, 1)
full_totals (and a b) = ((full_totals a).0 + (full_totals b).0, (full_totals a).1 + (full_totals b).1)
full_totals (or a b) = ((full_totals a).0 * (full_totals b).0, (full_totals a).1 * (full_totals b).0 + (full_totals a).0 * (full_totals b).1)
full_totals (all a) = full_totals a
full_totals (ex a) = full_totals a
