use Rattle.std.proofs.Common.{◌≡◌, ◌+◌, ◌-◌, ◌<◌, false, true, length, map, [], ◌∷◌, ◌++◌, refl, sym, ap, ◌∙◌, arith, rules}
use Rattle.std.specs.Prelude.{slice_get}
use Rattle.std.proofs.lemmas.Result.{err_from_is_err_and}
use Rattle.std.proofs.lemmas.List.{map_push}
use Rattle.lex_words.specs.Seen.{at_key}
use Rattle.lex_words.specs.declared.key.Key.TheVariants.{BraceClose}
use Rattle.lex_words.proofs.Loops.{Front, Front-nil}
use Rattle.lex_words.proofs.Turns.{turn_fails, turn_gives}
use Rattle.indus_tree.specs.Tree.{block_from}
use Rattle.indus_tree.specs.View.{stmt_of}
use Rattle.indus_spelling.specs.Properties.{block_reports}
use Rattle.indus_reader.specs.Reading.{many_at, stmt_at, stmt_in}
use Rattle.indus_reader.proofs.Turns.{many_ends, many_goes_on, reports-push}
use Rattle.indus_reader.proofs.stmt.+stmt.Goals as goal

pub statements-items-init : goal.statements-items-init
statements-items-init t c =
    let ws = c.args.tokens.now.lexemes in
    let n = length ws + 1 in
    let m = many_at ws n 256 (stmt_at ws n 256 c.args.height) n c.args.reports c.args.tokens.now.at in
    let e : map stmt_of c.new-stmts.result.items ≡ [] = search rules in
    record {
      turn = record { turns = n; enough = omega arith; reads = sym (Front-nil m) ∙ ap (λ x. Front x m) (sym e); same = refl; onward = omega arith };
      counted = (let k : c.args.reports ≡ c.args.reports + 0 = omega arith in k ∙ ap (λ x. c.args.reports + block_reports (block_from x)) (sym e));
      few = c.requires.counted.few;
    }

pub statements-returns-in_err-one-clause-reads : goal.statements-returns-in_err-one-clause-reads
statements-returns-in_err-one-clause-reads t c =
    let ws = c.args.tokens.now.lexemes in
    let n = length ws + 1 in
    let l = c.items.invariant.turn in
    let i = c.items.tokens.at in
    let s = stmt_at ws n 256 c.args.height in
    let p = err_from_is_err_and c.from_residual.result c.from_residual.ensures.1 in
    let some : 0 < l.turns = omega (arith, l.enough, c.is.ensures.inside, ap length l.same) in
    let is : at_key BraceClose (slice_get ws i) ≡ false = rw (← l.same) (sym c.is.ensures.value ∙ c.items-test.true) in
    let step = l.reads ∙ many_goes_on ws n 256 s (map stmt_of c.items.stmts.items) l.turns c.items.number i some is in
    record {
      gives = rw (p.1, p.2) (turn_fails ws (λ vs m. stmt_at vs m 256 c.args.height c.items.number) stmt_in _ c.items.tokens c.statement.new.tokens i c.in_err-one.field-0.0 _ l.same refl step c.in_err-one.ensures.reads);
      same = c.in_err-one.ensures.reads.same ∙ l.same;
      within = rw p.1 tt;
    }

pub statements-items-preserved : goal.statements-items-preserved
statements-items-preserved t c =
    let ws = c.args.tokens.now.lexemes in
    let n = length ws + 1 in
    let l = c.items.invariant.turn in
    let i = c.items.tokens.at in
    let s = stmt_at ws n 256 c.args.height in
    let front = map stmt_of c.items.stmts.items in
    let x = c.in_ok-one.one in
    let j = c.statement.new.tokens.at in
    let r = c.in_ok-one.ensures in
    let some : 0 < l.turns = omega (arith, l.enough, c.is.ensures.inside, ap length l.same) in
    let is : at_key BraceClose (slice_get ws i) ≡ false = rw (← l.same) (sym c.is.ensures.value ∙ c.items-test.true) in
    let step = l.reads ∙ many_goes_on ws n 256 s front l.turns c.items.number i some is in
    let e : map stmt_of c.push.new.self.items ≡ front ++ stmt_of x.stmt ∷ [] = rw c.in_ok-push.ensures.items (map_push _ c.items.stmts.items x.stmt) in
    let g = turn_gives ws (λ vs m. stmt_at vs m 256 c.args.height c.items.number) stmt_in _ c.items.tokens c.statement.new.tokens i x _ l.same refl step r.reads in
    record {
      turn = record {
        turns = l.turns - 1;
        enough = omega (arith, l.enough, r.reads.within.1);
        reads = g ∙ ap (λ z. Front (front ++ stmt_of x.stmt ∷ []) (many_at ws n 256 s (l.turns - 1) z j)) (sym r.counts.counted) ∙ ap (λ z. Front z (many_at ws n 256 s (l.turns - 1) x.reports j)) (sym e);
        same = r.reads.same ∙ l.same;
        onward = omega (arith, l.onward, r.reads.within.1);
      };
      counted = (let k : x.reports ≡ c.args.reports + block_reports (block_from (front ++ stmt_of x.stmt ∷ [])) = omega (arith, r.counts.counted, c.items.invariant.counted, reports-push front (stmt_of x.stmt)) in k ∙ ap (λ z. c.args.reports + block_reports (block_from z)) (sym e));
      few = r.counts.few;
    }

pub statements-returns-clause-reads : goal.statements-returns-clause-reads
statements-returns-clause-reads t c =
    let ws = c.args.tokens.now.lexemes in
    let n = length ws + 1 in
    let l = c.items.invariant.turn in
    let i = c.items.tokens.at in
    let some : 0 < l.turns = omega (arith, l.enough, c.is.ensures.inside, ap length l.same) in
    let is : at_key BraceClose (slice_get ws i) ≡ true = rw (← l.same) (sym c.is.ensures.value ∙ c.items-test.false) in
    record {
      gives = l.reads ∙ many_ends ws n 256 (stmt_at ws n 256 c.args.height) (map stmt_of c.items.stmts.items) l.turns c.items.number i some is;
      same = l.same;
      within = (omega (arith, c.is.ensures.inside, ap length l.same), l.onward);
    }
