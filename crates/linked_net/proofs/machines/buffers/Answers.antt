use Rattle.std.proofs.Common.{◌≡◌, ◌+◌, List, ◌++◌, ◌∷◌, [], map, take, ap, sym, ◌∙◌, subst, arith}
use Rattle.std.proofs.lemmas.List.{map_more}
use Rattle.p4_tree.specs.Tree.{Program}
use Rattle.p4_tree.specs.View.{program_of}
use Rattle.p4_machine.specs.Buffers.{Buffer}
use Rattle.linked_net.specs.Switches.{AreMadeFor}
use Rattle.linked_net.proofs.Switches.{one_more}
use Rattle.linked_net.proofs.machines.buffers.Goals as goal

pub loop-program-preserved : goal.loop-program-preserved
loop-program-preserved c =
    let xs = c.args.programs.now in
    let i = c.loop-program.program-index in
    let x = c.program-item.result in
    let done = map program_of (take i xs) in
    let made = c.loop-program.bufs.items in
    let buf = c.in_ok-new.field-0 in
    let more : done ++ program_of x ∷ [] ≡ map program_of (take (i + 1) xs) = ap (λ y. done ++ program_of y ∷ []) c.program-item.is ∙ sym {A = List Program} (map_more program_of xs i x (omega arith)) in
    subst (λ (bs : List Buffer). AreMadeFor (map program_of (take (i + 1) xs)) bs) (sym c.in_ok-push.ensures.items)
    (subst (λ (ps : List Program). AreMadeFor ps (made ++ buf ∷ [])) more (one_more done made (program_of x) buf c.loop-program.invariant c.in_ok-new.ensures.made))
