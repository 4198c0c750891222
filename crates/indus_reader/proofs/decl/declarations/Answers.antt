use Rattle.std.proofs.Common.{◌≡◌, ◌+◌, ◌-◌, length, map, [], ◌∷◌, ◌++◌, refl, sym, ap, ◌∙◌, arith, rules}
use Rattle.std.proofs.lemmas.Result.{err_from_is_err_and}
use Rattle.std.proofs.lemmas.List.{map_push}
use Rattle.lex_words.proofs.Turns.{turn_fails, turn_gives}
use Rattle.indus_tree.specs.View.{decl_of}
use Rattle.indus_reader.specs.Declaring.{decl_at, decls_at}
use Rattle.indus_reader.proofs.Turns.{decls_end, decls_go_on, begins_along}
use Rattle.indus_reader.proofs.decl.declarations.Goals as goal

pub items-init : goal.items-init
items-init c =
    let ws = c.args.tokens.now.lexemes in
    let n = length ws + 1 in
    let e : map decl_of c.new-decls.result.items ≡ [] = search rules in
    record { goes_on = (n, omega arith, ap (λ x. decls_at ws n n x c.args.tokens.now.at) (sym e)); same = refl; onward = omega arith }

pub returns-in_err-declaration : goal.returns-in_err-declaration
returns-in_err-declaration c =
    let ws = c.args.tokens.now.lexemes in
    let l = c.items.invariant in
    let p = err_from_is_err_and c.from_residual.result c.from_residual.ensures.1 in
    let is = begins_along c.items.tokens.lexemes ws c.items.tokens.at c.begins.result l.same c.begins.ensures.value ∙ c.items-test.true in
    let step = l.goes_on.2 ∙ decls_go_on ws (length ws + 1) l.goes_on.0 (map decl_of c.items.decls.items) c.items.tokens.at (omega (arith, l.goes_on.1, c.begins.ensures.inside, ap length l.same)) is in
    record {
      gives = rw (p.1, p.2) (turn_fails ws decl_at decl_of _ c.items.tokens c.declaration.new.tokens c.items.tokens.at c.in_err-declaration.field-0.0 _ l.same refl step c.in_err-declaration.ensures);
      same = c.in_err-declaration.ensures.same ∙ l.same;
      within = rw p.1 tt;
    }

pub items-preserved : goal.items-preserved
items-preserved c =
    let ws = c.args.tokens.now.lexemes in
    let n = length ws + 1 in
    let l = c.items.invariant in
    let x = c.in_ok-declaration.field-0 in
    let r = c.in_ok-declaration.ensures in
    let is = begins_along c.items.tokens.lexemes ws c.items.tokens.at c.begins.result l.same c.begins.ensures.value ∙ c.items-test.true in
    let step = l.goes_on.2 ∙ decls_go_on ws n l.goes_on.0 (map decl_of c.items.decls.items) c.items.tokens.at (omega (arith, l.goes_on.1, c.begins.ensures.inside, ap length l.same)) is in
    let e : map decl_of c.push.new.self.items ≡ map decl_of c.items.decls.items ++ decl_of x ∷ [] = rw c.in_ok-push.ensures.items (map_push _ c.items.decls.items x) in
    record {
      goes_on = (
        l.goes_on.0 - 1,
        omega (arith, l.goes_on.1, r.within.1),
        turn_gives ws decl_at decl_of _ c.items.tokens c.declaration.new.tokens c.items.tokens.at x _ l.same refl step r ∙ ap (λ z. decls_at ws n (l.goes_on.0 - 1) z c.declaration.new.tokens.at) (sym e),
      );
      same = r.same ∙ l.same;
      onward = omega (arith, l.onward, r.within.1);
    }

pub returns : goal.returns
returns c =
    let ws = c.args.tokens.now.lexemes in
    let l = c.items.invariant in
    let is = begins_along c.items.tokens.lexemes ws c.items.tokens.at c.begins.result l.same c.begins.ensures.value ∙ c.items-test.false in
    record {
      gives = l.goes_on.2 ∙ decls_end ws (length ws + 1) l.goes_on.0 (map decl_of c.items.decls.items) c.items.tokens.at (omega (arith, l.goes_on.1, c.begins.ensures.inside, ap length l.same)) is;
      same = l.same;
      within = (omega (arith, c.begins.ensures.inside, ap length l.same), l.onward);
    }
