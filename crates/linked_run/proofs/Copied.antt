-- Programs that are the same trees can be spelled as well.
use Rattle.std.proofs.Common.{◌≡◌, ◌<◌, List, length, map, All, get_or, sym, ap, ◌∙◌, subst, arith}
use Rattle.std.proofs.Math.ListN.{get_or-map}
use Rattle.std.proofs.lemmas.List.{length-map}
use Rattle.p4_tree.specs.Tree as tree
use Rattle.p4_tree.specs.View.{program_of}
use Rattle.p4_tree.specs.declared.program.Program.{Program}
use Rattle.p4_printer.specs.CanSpell.{CanSpell}

pub copied_can : (xs ys : List Program) → map program_of xs ≡ map program_of ys → All (λ t. CanSpell (program_of t)) ys → All (λ t. CanSpell (program_of t)) xs
copied_can xs ys same h k d lt =
    let count : length xs ≡ length ys = sym (length-map xs program_of) ∙ (ap (λ (ps : List tree.Program). length ps) same ∙ length-map ys program_of) in
    let there : k < length ys = omega (arith, lt, count) in
    let is : program_of (get_or ys k d) ≡ program_of (get_or xs k d) =
    sym (get_or-map program_of ys k d) ∙ (ap (λ (ps : List tree.Program). get_or ps k (program_of d)) (sym same) ∙ get_or-map program_of xs k d) in
    subst CanSpell is (h k d there)
