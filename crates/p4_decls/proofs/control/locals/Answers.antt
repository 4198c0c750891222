use Rattle.std.proofs.Common.{◌≡◌, ◌+◌, ◌-◌, length, map, [], ◌∷◌, ◌++◌, Some, None, refl, sym, ap, ◌∙◌, arith, rules}
use Rattle.std.specs.Option.{option_map}
use Rattle.std.proofs.lemmas.Result.{err_from_is_err_and}
use Rattle.std.proofs.lemmas.List.{map_push}
use Rattle.lex_words.proofs.Turns.{turn_fails, turn_gives}
use Rattle.p4_tree.specs.View.{local_of}
use Rattle.p4_decls.specs.Controls.{local_at, goes_on, locals_at}
use Rattle.p4_decls.proofs.Turns.{locals_go_on}
use Rattle.p4_decls.proofs.control.locals.Goals as goal

pub items-init : goal.items-init
items-init c =
    let ws = c.args.tokens.now.lexemes in
    let n = length ws + 1 in
    let e : map local_of c.new-locals.result.items ≡ [] = search rules in
    record { goes_on = (n, omega arith, ap (λ x. locals_at ws n 256 253 n x c.args.tokens.now.at) (sym e)); inside = c.requires; same = refl; onward = omega arith }

pub returns-in_err-found : goal.returns-in_err-found
returns-in_err-found c =
    let ws = c.args.tokens.now.lexemes in
    let l = c.items.invariant in
    let p = err_from_is_err_and c.from_residual.result c.from_residual.ensures.1 in
    let step = l.goes_on.2 ∙ locals_go_on ws (length ws + 1) 256 253 l.goes_on.0 (map local_of c.items.locals.items) c.items.tokens.at (omega (arith, l.goes_on.1, l.inside)) in
    record {
      gives = rw (p.1, p.2) (turn_fails ws (λ vs m. local_at vs m 256 253) (λ x. option_map local_of x) _ c.items.tokens c.local.new.tokens c.items.tokens.at c.in_err-found.field-0.0 _ l.same refl step c.in_err-found.ensures);
      same = c.in_err-found.ensures.same ∙ l.same;
      within = rw p.1 tt;
    }

pub items-preserved : goal.items-preserved
items-preserved c =
    let ws = c.args.tokens.now.lexemes in
    let n = length ws + 1 in
    let l = c.items.invariant in
    let o = c.in_ok-found.field-0 in
    let d = c.in-Some.found in
    let q = c.local.new.tokens.at in
    let r = c.in_ok-found.ensures in
    let ds = map local_of c.items.locals.items in
    let k = l.goes_on.0 in
    let step = l.goes_on.2 ∙ locals_go_on ws n 256 253 k ds c.items.tokens.at (omega (arith, l.goes_on.1, l.inside)) in
    let g = turn_gives ws (λ vs m. local_at vs m 256 253) (λ x. option_map local_of x) _ c.items.tokens c.local.new.tokens c.items.tokens.at o _ l.same refl step r in
    let s : option_map local_of o ≡ Some (local_of d) = ap (option_map local_of) c.in-Some.is in
    let e : map local_of c.push.new.self.items ≡ ds ++ local_of d ∷ [] = rw c.in_ok-push.ensures.items (map_push _ c.items.locals.items d) in
    record {
      goes_on = (k - 1, omega (arith, l.goes_on.1, r.within.1), g ∙ ap (λ z. goes_on ws n 256 253 ds q z (λ es. locals_at ws n 256 253 (k - 1) es q)) s ∙ ap (λ z. locals_at ws n 256 253 (k - 1) z q) (sym e));
      inside = omega (arith, r.within.0, ap length l.same);
      same = r.same ∙ l.same;
      onward = omega (arith, l.onward, r.within.1);
    }

pub returns : goal.returns
returns c =
    let ws = c.args.tokens.now.lexemes in
    let n = length ws + 1 in
    let l = c.items.invariant in
    let o = c.in_ok-found.field-0 in
    let q = c.local.new.tokens.at in
    let r = c.in_ok-found.ensures in
    let ds = map local_of c.items.locals.items in
    let k = l.goes_on.0 in
    let step = l.goes_on.2 ∙ locals_go_on ws n 256 253 k ds c.items.tokens.at (omega (arith, l.goes_on.1, l.inside)) in
    let g = turn_gives ws (λ vs m. local_at vs m 256 253) (λ x. option_map local_of x) _ c.items.tokens c.local.new.tokens c.items.tokens.at o _ l.same refl step r in
    let s : option_map local_of o ≡ None = ap (option_map local_of) c.in_default.is in
    record {
      gives = g ∙ ap (λ z. goes_on ws n 256 253 ds q z (λ es. locals_at ws n 256 253 (k - 1) es q)) s;
      same = r.same ∙ l.same;
      within = (omega (arith, r.within.0, ap length l.same), omega (arith, l.onward, r.within.1));
    }
