-- A property, as the network law takes it: what its variables hold at the start, and its three blocks as the meaning
-- runs them. What the property does at a half, at a hop and on a path is said by `PathMeaning` and `Hop` of
-- `network_run`. Read `Meaning` and `Hops` before it, and `linkage`'s `Linkage` after it.
use Rattle.std.specs.Prelude.{List}
use Rattle.network_run.specs.PathMeaning.{Reads, Doing}
use Rattle.network_run.specs.PathMeaning as law
use Rattle.indus_tree.specs.Tree.{Decl, Stmts, Property}
use Rattle.indus_tree.specs.State.{Contents, Hop, Held}
use Rattle.indus_tree.specs.Start.{tele_start, sensors_start}
use Rattle.indus_tree.specs.Hops.{hop_at}
use Rattle.indus_tree.specs.Meaning.{run_of}

-- what a half shows a block: header variables in order of declaration, control variables by their numbers
abbrev pub hop_for : List Decl → Reads Contents → Hop
hop_for ds r = hop_at ds r.switch r.first r.last r.view r.contents

-- a block
abbrev pub law_block : List Decl → Stmts → Reads Contents → Doing Held Held → Doing Held Held
law_block ds ss r d = run_of (hop_for ds r) ss d

-- a property
abbrev pub law_of : Property → law.Property Held Held Contents
law_of p =
    record {
      tele = tele_start p.decls;
      sensors = sensors_start p.decls;
      init = law_block p.decls p.init;
      telemetry = law_block p.decls p.tele;
      checker = law_block p.decls p.check;
    }
