-- What the values of the program stand for.
use Rattle.p4_meaning.specs.Scope as scope
use Rattle.lowered_code.specs.Environment.{Environment, in_control}
use Rattle.lower_code.specs.declared.roots.Roots.{Roots}

-- the parameters' names, as the meaning has them
abbrev pub roots_of : Roots → scope.Roots
roots_of r = record { headers = r.headers; metadata = r.meta; standard = r.standard }

abbrev pub environment_of : Roots → Environment
environment_of r = in_control (roots_of r)
