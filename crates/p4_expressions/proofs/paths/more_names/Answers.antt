use Rattle.std.proofs.Common.{◌≡◌, ◌+◌, length, [], ◌∷◌, refl, sym, ap, ◌∙◌, arith, rules}
use Rattle.std.proofs.lemmas.Result.{err_from_is_err_and}
use Rattle.lex_words.specs.declared.key.Key.TheVariants.{Dot}
use Rattle.lex_words.proofs.Loops.{Front}
use Rattle.lex_words.proofs.Turns.{more_fails, more_next, more_done}
use Rattle.lex_words.specs.Reading.{more_of, named_at}
use Rattle.p4_expressions.proofs.Turns.{names_front}
use Rattle.p4_expressions.proofs.paths.more_names.Goals as goal

pub items-init : goal.items-init
items-init c =
    let ws = c.args.tokens.now.lexemes in
    let n = length ws + 1 in
    let e : c.push.new.self.items ≡ c.args.first ∷ [] = search rules in
    record { turns = n; enough = omega arith; reads = names_front ws n c.args.first c.args.tokens.now.at ∙ ap (λ x. Front x (more_of ws Dot (named_at ws n) n c.args.tokens.now.at)) (sym e); same = refl; onward = omega arith }

pub returns-in_err-name : goal.returns-in_err-name
returns-in_err-name c =
    let p = err_from_is_err_and c.from_residual-in_err-name.result c.from_residual-in_err-name.ensures.1 in
    record {
      gives = rw (p.1, p.2) (more_fails c.args.tokens.now.lexemes named_at (λ x. x) Dot _ _ _ _ _ _ c.items.invariant c.eat.ensures c.items-test.true c.name.new.self c.in_err-name.field-0.0 c.in_err-name.ensures);
      same = c.in_err-name.ensures.same ∙ c.eat.ensures.same ∙ c.items.invariant.same;
      within = rw p.1 tt;
    }

pub items-preserved : goal.items-preserved
items-preserved c = more_next c.args.tokens.now.lexemes named_at (λ x. x) Dot _ _ _ _ _ _ c.items.invariant c.eat.ensures c.items-test.true c.name.new.self c.in_ok-name.name _ c.in_ok-name.ensures c.in_ok-push-2.ensures.items

pub returns : goal.returns
returns c =
    let d = more_done c.args.tokens.now.lexemes named_at (λ x. x) Dot _ _ _ _ _ _ c.items.invariant c.eat.ensures c.items-test.false in
    record { gives = d.gives; same = d.same; within = d.within }
