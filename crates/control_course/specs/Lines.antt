-- The line of too many table items.
use Rattle.std.specs.Prelude.{ℕ, List, codes}
use Rattle.table_items.specs.declared.fault.TooMany.{TooMany}
use Rattle.job_course.specs.declared.status.Area.TheVariants as area
use Rattle.job_course.specs.Lines.{place_line}

-- it has the fault's number
abbrev pub too_many_line : (name : List ℕ) → TooMany → List ℕ
too_many_line name f = place_line area.Network name (codes "TooMany") f.switch
