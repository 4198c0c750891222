-- Logs of halves, on which `law_of` is worked out. The properties are those of `Properties`, and two more.
use Rattle.std.specs.Prelude.{codes, ℕ, List, [], ◌∷◌, ◌++◌, Bool, true, false}
use Rattle.bit_values.specs.Bits.{Word}
use Rattle.indus_tree.specs.Tree.{one, exprs_from, assign, reject, report, Property}
use Rattle.indus_tree.specs.State.{Contents, Held}
use Rattle.indus_tree.specs.Law.{law_of}
use Rattle.indus_tree.specs.declared.tree.DeclKind.TheVariants.{Tele}
use Rattle.indus_tree.specs.declared.tree.Ty.TheVariants.{Bool as Truth}
use Rattle.network_run.specs.Network.{Half}
use Rattle.network_run.specs.PathMeaning.{Reads, Report, Reported, Path, reads_at, path_meaning}
use Rattle.indus_run_tests.specs.Properties.{name, variable, property, no_contents}

-- the two halves of a packet at a switch, with the header variables in each
abbrev pub passage_with : (contents : ℕ → Contents) (entry exit : List Word) (packet switch : ℕ) (first last : Bool) → List (Half Contents)
passage_with contents entry exit packet switch first last =
    record {
      is_exit = false;
      packet = packet;
      switch = switch;
      first = first;
      last = false;
      view = entry;
      contents = contents;
    } ∷ record {
      is_exit = true;
      packet = packet;
      switch = switch;
      first = first;
      last = last;
      view = exit;
      contents = contents;
    } ∷ []

abbrev pub passage : (packet switch : ℕ) (first last : Bool) → List (Half Contents)
passage = passage_with no_contents [] []

-- a packet that passes the switches 0, 1 and 2, and one that passes switch 0 alone
abbrev pub over_three : (packet : ℕ) → List (Half Contents)
over_three i = passage i 0 true false ++ (passage i 1 false false ++ passage i 2 false true)

abbrev pub over_one : (packet : ℕ) → List (Half Contents)
over_one i = passage i 0 true true

-- what a property says of a log
abbrev pub path_of : Property → List (Half Contents) → Path Held Held
path_of p log = path_meaning (law_of p) log

-- a report of a packet at a switch
abbrev pub reporting : (packet switch number : ℕ) → List Word → Reported
reporting i s n ws = record { packet = i; switch = s; report = record { number = n; values = ws } }

-- {} {reject;} {}
abbrev pub rejects_early : Property
rejects_early = property [] [] (reject 0 ∷ []) []

-- tele bool l; {l = last_hop;} {} {}
abbrev pub asks_early : Property
asks_early = property (variable Tele (codes "l") (one Truth) ∷ []) (assign 0 (codes "l") (name (codes "last_hop")) ∷ []) [] []

-- what a half reads at the packet's first hop
abbrev pub reads_where : (last : Bool) → Reads Contents
reads_where last = reads_at 0 true last [] no_contents

-- edition 2; {report();} {} {report();}
abbrev pub reports_twice : Property
reports_twice = record (property [] (report 0 0 (exprs_from []) ∷ []) [] (report 0 1 (exprs_from []) ∷ [])) { edition = 2 }

-- a report without values
abbrev pub telling : ℕ → Report
telling n = record { number = n; values = [] }
