use Rattle.std.proofs.Common.{List, [], ◌∷◌, ◌++◌, map, ap, ◌∙◌}
use Rattle.std.proofs.lemmas.List.{map-append, replicate_more}
use Rattle.control_maps.specs.Numbers.{Numbered}
use Rattle.set_contents.specs.Maps.{map_of, maps_of}
use Rattle.forward_run.proofs.run.no_tables.Goals as goal

pub loop-preserved : goal.loop-preserved
loop-preserved c =
    let before = maps_of c.loop.lists.items in
    ap maps_of c.in_ok-push.ensures.items
    ∙ (map-append (λ v. map_of v.items) c.loop.lists.items _
    ∙ (ap (λ items. before ++ map_of items ∷ []) c.new.ensures.items
    ∙ (ap (λ (maps : List (List Numbered)). maps ++ [] ∷ []) c.loop.invariant ∙ replicate_more c.loop.counter [])))
