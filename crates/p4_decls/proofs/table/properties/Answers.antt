use Rattle.std.proofs.Common.{◌≡◌, ◌+◌, ◌-◌, length, true, false, refl, sym, ap, ◌∙◌, arith}
use Rattle.std.specs.Prelude.{slice_get}
use Rattle.std.proofs.lemmas.Result.{err_from_is_err_and}
use Rattle.lex_words.specs.declared.key.Key.TheVariants.{BraceClose}
use Rattle.lex_words.specs.Seen.{at_key}
use Rattle.lex_words.proofs.Turns.{turn_fails, turn_gives}
use Rattle.p4_decls.specs.Tables.{prop_at}
use Rattle.p4_decls.specs.Found.{props_of}
use Rattle.p4_decls.proofs.Turns.{props_end, props_go_on}
use Rattle.p4_decls.proofs.table.properties.Goals as goal

pub items-init : goal.items-init
items-init c = record { goes_on = (length c.args.tokens.now.lexemes + 1, omega arith, refl); same = refl; onward = omega arith }

pub returns-in_err-props : goal.returns-in_err-props
returns-in_err-props c =
    let ws = c.args.tokens.now.lexemes in
    let l = c.items.invariant in
    let p = err_from_is_err_and c.from_residual.result c.from_residual.ensures.1 in
    let is : at_key BraceClose (slice_get ws c.items.tokens.at) ≡ false = ap (λ v. at_key BraceClose (slice_get v c.items.tokens.at)) (sym l.same) ∙ sym c.is.ensures.value ∙ c.items-test.true in
    let step = l.goes_on.2 ∙ props_go_on ws (length ws + 1) 256 251 l.goes_on.0 (props_of c.items.props) c.items.tokens.at (omega (arith, l.goes_on.1, c.is.ensures.inside, ap length l.same)) is in
    record {
      gives = rw (p.1, p.2) (turn_fails ws (λ vs m. prop_at vs m 256 251 (props_of c.items.props)) props_of _ c.items.tokens c.property.new.tokens c.items.tokens.at c.in_err-props.field-0.0 _ l.same refl step c.in_err-props.ensures);
      same = c.in_err-props.ensures.same ∙ l.same;
      within = rw p.1 tt;
    }

pub items-preserved : goal.items-preserved
items-preserved c =
    let ws = c.args.tokens.now.lexemes in
    let l = c.items.invariant in
    let r = c.in_ok-props.ensures in
    let is : at_key BraceClose (slice_get ws c.items.tokens.at) ≡ false = ap (λ v. at_key BraceClose (slice_get v c.items.tokens.at)) (sym l.same) ∙ sym c.is.ensures.value ∙ c.items-test.true in
    let step = l.goes_on.2 ∙ props_go_on ws (length ws + 1) 256 251 l.goes_on.0 (props_of c.items.props) c.items.tokens.at (omega (arith, l.goes_on.1, c.is.ensures.inside, ap length l.same)) is in
    record {
      goes_on = (
        l.goes_on.0 - 1,
        omega (arith, l.goes_on.1, r.within.1),
        turn_gives ws (λ vs m. prop_at vs m 256 251 (props_of c.items.props)) props_of _ c.items.tokens c.property.new.tokens c.items.tokens.at c.in_ok-props.props _ l.same refl step r,
      );
      same = r.same ∙ l.same;
      onward = omega (arith, l.onward, r.within.1);
    }

pub returns : goal.returns
returns c =
    let ws = c.args.tokens.now.lexemes in
    let l = c.items.invariant in
    let is : at_key BraceClose (slice_get ws c.items.tokens.at) ≡ true = ap (λ v. at_key BraceClose (slice_get v c.items.tokens.at)) (sym l.same) ∙ sym c.is.ensures.value ∙ c.items-test.false in
    record {
      gives = l.goes_on.2 ∙ props_end ws (length ws + 1) 256 251 l.goes_on.0 (props_of c.items.props) c.items.tokens.at (omega (arith, l.goes_on.1, c.is.ensures.inside, ap length l.same)) is;
      same = l.same;
      within = (omega (arith, c.is.ensures.inside, ap length l.same), l.onward);
    }
