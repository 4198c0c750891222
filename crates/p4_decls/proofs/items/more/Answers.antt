use Rattle.std.proofs.Common.{◌≡◌, ◌+◌, length, map, [], ◌∷◌, refl, sym, ap, ◌∙◌, arith, rules}
use Rattle.std.proofs.lemmas.Result.{err_from_is_err_and}
use Rattle.std.proofs.lemmas.List.{map_push}
use Rattle.lex_words.specs.declared.key.Key.TheVariants.{Comma}
use Rattle.lex_words.specs.Reading.{more_of}
use Rattle.lex_words.proofs.Loops.{Front}
use Rattle.lex_words.proofs.Turns.{more_fails, more_next, more_done}
use Rattle.p4_decls.proofs.Turns.{more_front}
use Rattle.p4_decls.proofs.items.more.Goals as goal

pub items-init : goal.items-init
items-init g c =
    let ws = c.args.tokens.now.lexemes in
    let n = length ws + 1 in
    let item = g.I.Item.reader ws n in
    let e : map g.I.Item.view c.push.new.self.items ≡ g.I.Item.view c.args.first ∷ [] = search rules in
    record {
      turns = n;
      enough = omega arith;
      reads = more_front ws item n (g.I.Item.view c.args.first) c.args.tokens.now.at ∙ ap (λ x. Front x (more_of ws Comma item n c.args.tokens.now.at)) (sym e);
      same = refl;
      onward = omega arith;
    }

pub returns-in_err-read : goal.returns-in_err-read
returns-in_err-read g c =
    let p = err_from_is_err_and c.from_residual-in_err-read.result c.from_residual-in_err-read.ensures.1 in
    record {
      gives = rw (p.1, p.2) (more_fails c.args.tokens.now.lexemes g.I.Item.reader g.I.Item.view Comma _ _ _ _ _ _ c.items.invariant c.eat.ensures c.items-test.true c.read.new.tokens c.in_err-read.field-0.0 c.in_err-read.ensures);
      same = c.in_err-read.ensures.same ∙ c.eat.ensures.same ∙ c.items.invariant.same;
      within = rw p.1 tt;
    }

pub items-preserved : goal.items-preserved
items-preserved g c =
    more_next c.args.tokens.now.lexemes g.I.Item.reader g.I.Item.view Comma _ _ _ _ _ _ c.items.invariant c.eat.ensures c.items-test.true c.read.new.tokens c.in_ok-read.field-0 _ c.in_ok-read.ensures
    (rw c.in_ok-push-2.ensures.items (map_push _ c.items.items.items c.in_ok-read.field-0))

pub returns : goal.returns
returns g c =
    let d = more_done c.args.tokens.now.lexemes g.I.Item.reader g.I.Item.view Comma _ _ _ _ _ _ c.items.invariant c.eat.ensures c.items-test.false in
    record { gives = d.gives; same = d.same; within = d.within }
