use Rattle.std.proofs.Common.{◌≡◌, ◌+◌, length, map, [], refl, sym, ap, ◌∙◌, arith, rules}
use Rattle.std.proofs.lemmas.Result.{err_from_is_err_and}
use Rattle.std.proofs.lemmas.List.{map_push}
use Rattle.lex_words.proofs.Loops.{Front-nil, Front}
use Rattle.p4_decls.specs.Repeating.{each_at}
use Rattle.p4_decls.proofs.Turns.{each_fails, each_next, each_done}
use Rattle.p4_decls.proofs.items.each.Goals as goal

pub items-init : goal.items-init
items-init g c =
    let ws = c.args.tokens.now.lexemes in
    let n = length ws + 1 in
    let read = each_at ws g.I.Items.stop (g.I.Item.reader ws n) n c.args.tokens.now.at in
    let e : map g.I.Item.view c.new-items.result.items ≡ [] = search rules in
    record { turns = n; enough = omega arith; reads = sym (Front-nil read) ∙ ap (λ x. Front x read) (sym e); same = refl; onward = omega arith }

pub returns-in_err-read : goal.returns-in_err-read
returns-in_err-read g c =
    let p = err_from_is_err_and c.from_residual.result c.from_residual.ensures.1 in
    record {
      gives = rw (p.1, p.2) (each_fails c.args.tokens.now.lexemes g.I.Item.reader g.I.Item.view g.I.Items.stop _ _ _ _ _ c.items.invariant c.end.ensures.value c.end.ensures.inside c.items-test.true c.read.new.tokens c.in_err-read.field-0.0 c.in_err-read.ensures);
      same = c.in_err-read.ensures.same ∙ c.items.invariant.same;
      within = rw p.1 tt;
    }

pub items-preserved : goal.items-preserved
items-preserved g c =
    each_next c.args.tokens.now.lexemes g.I.Item.reader g.I.Item.view g.I.Items.stop _ _ _ _ _ c.items.invariant c.end.ensures.value c.end.ensures.inside c.items-test.true c.read.new.tokens c.in_ok-read.field-0 _ c.in_ok-read.ensures
    (rw c.in_ok-push.ensures.items (map_push _ c.items.items.items c.in_ok-read.field-0))

pub returns : goal.returns
returns g c =
    let d = each_done c.args.tokens.now.lexemes g.I.Item.reader g.I.Item.view g.I.Items.stop _ _ _ _ _ c.items.invariant c.end.ensures.value c.end.ensures.inside c.items-test.false in
    record { gives = d.gives; same = d.same; within = d.within }
