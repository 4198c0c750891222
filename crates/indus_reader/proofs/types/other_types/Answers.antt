use Rattle.std.proofs.Common.{◌+◌, length, refl, ◌∙◌, arith}
use Rattle.std.proofs.lemmas.Result.{err_from_is_err_and}
use Rattle.lex_words.specs.declared.key.Key.TheVariants.{Comma}
use Rattle.lex_words.proofs.Turns.{more_fails, more_next, more_done}
use Rattle.indus_reader.specs.Declaring.{type_at}
use Rattle.indus_reader.proofs.Turns.{others_front}
use Rattle.indus_reader.proofs.types.other_types.Goals as goal

pub items-init : goal.items-init
items-init c =
    let ws = c.args.tokens.now.lexemes in
    record { turns = length ws + 1; enough = omega arith; reads = others_front ws (length ws + 1) c.args.types.items c.args.tokens.now.at; same = refl; onward = omega arith }

pub returns-in_err-type_of : goal.returns-in_err-type_of
returns-in_err-type_of c =
    let p = err_from_is_err_and c.from_residual.result c.from_residual.ensures.1 in
    record {
      gives = rw (p.1, p.2) (more_fails c.args.tokens.now.lexemes type_at (λ x. x) Comma _ _ _ _ _ _ c.items.invariant c.eat.ensures c.items-test.true c.type_of.new.tokens c.in_err-type_of.field-0.0 c.in_err-type_of.ensures);
      same = c.in_err-type_of.ensures.same ∙ c.eat.ensures.same ∙ c.items.invariant.same;
      within = rw p.1 tt;
    }

pub items-preserved : goal.items-preserved
items-preserved c = more_next c.args.tokens.now.lexemes type_at (λ x. x) Comma _ _ _ _ _ _ c.items.invariant c.eat.ensures c.items-test.true c.type_of.new.tokens c.in_ok-type_of.field-0 _ c.in_ok-type_of.ensures c.in_ok-push.ensures.items

pub returns : goal.returns
returns c =
    let d = more_done c.args.tokens.now.lexemes type_at (λ x. x) Comma _ _ _ _ _ _ c.items.invariant c.eat.ensures c.items-test.false in
    record { gives = d.gives; same = d.same; within = d.within }
