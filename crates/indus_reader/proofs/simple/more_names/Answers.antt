use Rattle.std.proofs.Common.{◌+◌, length, refl, ◌∙◌, arith}
use Rattle.std.proofs.lemmas.Result.{err_from_is_err_and}
use Rattle.lex_words.specs.declared.key.Key.TheVariants.{Comma}
use Rattle.lex_words.proofs.Turns.{more_fails, more_next, more_done}
use Rattle.lex_words.specs.Reading.{named_at}
use Rattle.indus_reader.proofs.Turns.{names_front}
use Rattle.indus_reader.proofs.simple.more_names.Goals as goal

pub items-init : goal.items-init
items-init c =
    let ws = c.args.tokens.now.lexemes in
    record { turns = length ws + 1; enough = omega arith; reads = names_front ws (length ws + 1) 256 c.args.names.items c.args.tokens.now.at; same = refl; onward = omega arith }

pub returns-in_err-name : goal.returns-in_err-name
returns-in_err-name c =
    let p = err_from_is_err_and c.from_residual.result c.from_residual.ensures.1 in
    record {
      gives = rw (p.1, p.2) (more_fails c.args.tokens.now.lexemes named_at (λ x. x) Comma _ _ _ _ _ _ c.items.invariant c.eat.ensures c.items-test.true c.name.new.self c.in_err-name.field-0.0 c.in_err-name.ensures);
      same = c.in_err-name.ensures.same ∙ c.eat.ensures.same ∙ c.items.invariant.same;
      within = rw p.1 tt;
    }

pub items-preserved : goal.items-preserved
items-preserved c = more_next c.args.tokens.now.lexemes named_at (λ x. x) Comma _ _ _ _ _ _ c.items.invariant c.eat.ensures c.items-test.true c.name.new.self c.in_ok-name.field-0 _ c.in_ok-name.ensures c.in_ok-push.ensures.items

pub returns : goal.returns
returns c =
    let d = more_done c.args.tokens.now.lexemes named_at (λ x. x) Comma _ _ _ _ _ _ c.items.invariant c.eat.ensures c.items-test.false in
    record { gives = d.gives; same = d.same; within = d.within }
