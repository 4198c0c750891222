-- The declaration at a place.
use Rattle.std.proofs.Common.{◌≡◌, ℕ, List, map, slice_get}
use Rattle.std.specs.Option.{option_map}
use Rattle.std.proofs.lemmas.Option.{slice_get-map}
use Rattle.indus_tree.specs.View.{decl_of}
use Rattle.indus_tree.specs.declared.tree.Decl.{Decl}

pub nth_decl : (ds : List Decl) (i : ℕ) → slice_get (map decl_of ds) i ≡ option_map decl_of (slice_get ds i)
nth_decl ds i = slice_get-map decl_of ds i
