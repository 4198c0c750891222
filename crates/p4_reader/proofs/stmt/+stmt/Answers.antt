use Rattle.std.proofs.Common.{◌≡◌, ◌+◌, length, map, [], ◌∷◌, ◌++◌, refl, sym, ap, ◌∙◌, arith, rules}
use Rattle.std.proofs.lemmas.Result.{err_from_is_err_and}
use Rattle.std.proofs.lemmas.List.{map_push}
use Rattle.lex_words.specs.declared.key.Key.TheVariants.{BraceClose}
use Rattle.lex_words.specs.Reading.{until}
use Rattle.lex_words.proofs.Loops.{Front, Front-nil}
use Rattle.lex_words.proofs.Turns.{until_fails, until_next, until_done}
use Rattle.p4_tree.specs.View.{stmt_of}
use Rattle.p4_reader.specs.Reading.{item_at}
use Rattle.p4_reader.proofs.stmt.+stmt.Goals as goal

pub items-turns-init : goal.items-turns-init
items-turns-init t c =
    let ws = c.args.tokens.now.lexemes in
    let n = length ws + 1 in
    let m = until ws BraceClose (item_at ws n 256 c.args.height) n c.args.tokens.now.at in
    let e : map stmt_of c.new-list.result.items ≡ [] = search rules in
    record { turns = n; enough = omega arith; reads = sym (Front-nil m) ∙ ap (λ x. Front x m) (sym e); same = refl; onward = omega arith }

pub items-returns-in_err-found : goal.items-returns-in_err-found
items-returns-in_err-found t c =
    let p = err_from_is_err_and c.from_residual.result c.from_residual.ensures.1 in
    record {
      gives = rw (p.1, p.2) (until_fails c.args.tokens.now.lexemes (λ vs m. item_at vs m 256 c.args.height) stmt_of BraceClose _ _ _ _ _ c.turns.invariant c.is.ensures.value c.is.ensures.inside c.turns-test.true c.item.new.tokens c.in_err-found.field-0.0 c.in_err-found.ensures);
      same = c.in_err-found.ensures.same ∙ c.turns.invariant.same;
      within = rw p.1 tt;
    }

pub items-turns-preserved : goal.items-turns-preserved
items-turns-preserved t c =
    let front = map stmt_of c.turns.list.items in
    let x = c.in_ok-found.found in
    let e : map stmt_of c.push.new.self.items ≡ front ++ stmt_of x ∷ [] = rw c.in_ok-push.ensures.items (map_push _ c.turns.list.items x) in
    until_next c.args.tokens.now.lexemes (λ vs m. item_at vs m 256 c.args.height) stmt_of BraceClose _ _ _ _ _ c.turns.invariant c.is.ensures.value c.is.ensures.inside c.turns-test.true c.item.new.tokens x _ c.in_ok-found.ensures e

pub items-returns : goal.items-returns
items-returns t c =
    let d = until_done c.args.tokens.now.lexemes (λ vs m. item_at vs m 256 c.args.height) stmt_of BraceClose _ _ _ _ _ c.turns.invariant c.is.ensures.value c.is.ensures.inside c.turns-test.false in
    record { gives = d.gives; same = d.same; within = d.within }
