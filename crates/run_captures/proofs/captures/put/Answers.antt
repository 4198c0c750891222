use Rattle.std.proofs.Common.{List, ◌∷◌, [], ◌++◌, length, get_or, set, map, sym, ap, ◌∙◌, subst, arith}
use Rattle.std.proofs.lemmas.List.{map-set, map_push, length-map}
use Rattle.path_runner.specs.Packets.{sent_of}
use Rattle.run_captures.specs.Sorted.{AreSorted}
use Rattle.run_captures.specs.Views.{lent_view, list_view}
use Rattle.run_captures.proofs.Sorting.{is_passed, is_put, list_in}
use Rattle.run_captures.proofs.captures.put.Goals as goal

pub returns-then-at-len : goal.returns-then-at-len
returns-then-at-len c = λ key same count xs h.
    let size = length-map c.args.lists.now.items list_view in
    let len = c.len.ensures ∙ c.args.lists.now.ok.0 in
    let over = c.if-at-len.true in
    is_passed key count xs (sent_of c.args.sent.now) _ h (omega (arith, same, size, len, over))

pub returns : goal.returns
returns c = λ key same count xs h.
    let ls = c.args.lists.now.items in
    let at = c.args.at in
    let size = length-map ls list_view in
    let len = c.len.ensures ∙ c.args.lists.now.ok.0 in
    let under = c.if-at-len.false in
    let is = ap (map lent_view) c.in_ok-push.ensures.items
    ∙ map_push lent_view c.index_mut.result.now.items c.args.sent
    ∙ ap (λ l. l ++ sent_of c.args.sent.now ∷ []) (ap list_view c.index_mut.ensures.value ∙ sym (list_in list_view ls at c.index_mut.result.now (omega (arith, len, under))))
    ∙ ap (λ n. get_or (map list_view ls) n [] ++ sent_of c.args.sent.now ∷ []) (sym same) in
    rw (map-set list_view ls at c.push.new.self)
    (subst (λ n. AreSorted key count (xs ++ sent_of c.args.sent.now ∷ []) (set (map list_view ls) n (list_view c.push.new.self))) same
    (is_put key count xs (sent_of c.args.sent.now) _ h (omega (arith, same, size, len, under)) (list_view c.push.new.self) is))
