use Rattle.std.proofs.Common.{◌≡◌, ◌<◌, ◌+◌, ◌-◌, length, true, false, refl, sym, ap, ◌∙◌, arith}
use Rattle.std.specs.Prelude.{slice_get}
use Rattle.lex_text.specs.declared.token.Words.TheVariants.{P4}
use Rattle.lex_words.specs.Seen.{at_include, is_include}
use Rattle.lex_words.proofs.KindsSeen.{includes_are_seen}
use Rattle.p4_decls.specs.Programs.{includes_at}
use Rattle.p4_decls.proofs.Turns.{include_inside, includes_end, includes_go_on}
use Rattle.p4_decls.proofs.program.inclusions.Goals as goal

pub items-init : goal.items-init
items-init c = record { goes_on = (length c.args.tokens.now.lexemes + 1, omega arith, refl); same = refl; onward = omega arith }

pub skip-requires : goal.skip-requires
skip-requires c =
    let ws = c.args.tokens.now.lexemes in
    let i = c.items.tokens.at in
    let l = c.items.invariant in
    let is : at_include (slice_get ws i) ≡ true = ap (λ v. at_include (slice_get v i)) c.requires ∙ includes_are_seen P4 c.args.text.now c.args.list.now i ∙ ap (λ j. is_include (slice_get c.args.list.now j)) (sym c.at.ensures.value) ∙ sym c.is_inclusion.ensures ∙ c.items-test.true in
    omega (arith, include_inside ws i is, ap length l.same)

pub items-preserved : goal.items-preserved
items-preserved c =
    let ws = c.args.tokens.now.lexemes in
    let i = c.items.tokens.at in
    let l = c.items.invariant in
    let is : at_include (slice_get ws i) ≡ true = ap (λ v. at_include (slice_get v i)) c.requires ∙ includes_are_seen P4 c.args.text.now c.args.list.now i ∙ ap (λ j. is_include (slice_get c.args.list.now j)) (sym c.at.ensures.value) ∙ sym c.is_inclusion.ensures ∙ c.items-test.true in
    let n = length ws + 1 in
    let some : 0 < l.goes_on.0 = omega (arith, l.goes_on.1, include_inside ws i is) in
    record {
      goes_on = (
        l.goes_on.0 - 1,
        omega (arith, l.goes_on.1, c.skip.ensures.at),
        l.goes_on.2 ∙ includes_go_on ws n 256 255 l.goes_on.0 i some is ∙ ap (λ j. includes_at ws n 256 255 (l.goes_on.0 - 1) j) (sym c.skip.ensures.at),
      );
      same = c.skip.ensures.same ∙ l.same;
      onward = omega (arith, l.onward, c.skip.ensures.at);
    }

pub returns : goal.returns
returns c =
    let ws = c.args.tokens.now.lexemes in
    let i = c.items.tokens.at in
    let l = c.items.invariant in
    let is : at_include (slice_get ws i) ≡ false = ap (λ v. at_include (slice_get v i)) c.requires ∙ includes_are_seen P4 c.args.text.now c.args.list.now i ∙ ap (λ j. is_include (slice_get c.args.list.now j)) (sym c.at.ensures.value) ∙ sym c.is_inclusion.ensures ∙ c.items-test.false in
    let len = ap length l.same in
    record {
      gives = l.goes_on.2 ∙ includes_end ws (length ws + 1) 256 255 l.goes_on.0 i (omega (arith, l.goes_on.1, c.at.ensures.value, c.at.ensures.inside, len)) is;
      same = l.same;
      within = (omega (arith, c.at.ensures.value, c.at.ensures.inside, len), l.onward);
    }
