-- What the controls of a well-typed program declare is none of the architecture's functions.
use Rattle.std.proofs.Common.{codes, ◌≡◌, ℕ, List, [], ◌∷◌, Bool, true, false, ◌||◌, refl, sym, ap, ◌∙◌}
use Rattle.lex_text.specs.Names.{same_text}
use Rattle.rule_tests.specs.Tests.{IsFine}
use Rattle.p4_tree.specs.Tree.{Top, constant, typedef, header_type, struct_type, register, parser, control, Program}
use Rattle.p4_meaning.specs.Scope.{is_among, own_names}
use Rattle.p4_scopes.specs.Scopes.{is_missing, Scope, core_name, core}
use Rattle.p4_declaration_rules.specs.Controls.{part_in, after_top, tops_tests}
use Rattle.p4_declaration_rules.specs.Parsers.{with_ways}
use Rattle.p4_rules.specs.ProgramRules.{program_tests, IsWellTyped}
use Rattle.p4_rule_laws.specs.Kept.{Keeps}
use Rattle.p4_rule_laws.proofs.KeepsLemmas.{with_ways_keeps, after_top_keeps}
use Rattle.rule_tests.proofs.FirstBroken.{unbroken_fine}
use Rattle.p4_typing_laws.proofs.CountedNames.{KeepsCore, core_keeps}
use Rattle.p4_typing_laws.proofs.CountedLocals.{IsNew, own_missing, own_new}
use Rattle.exit_statements.specs.Written.{is_function}
use Rattle.exit_statements.proofs.Values.{text_decides}

-- none of the names of each control is a function's
abbrev pub OwnApart : List Top → Type 0
OwnApart [] = Unit {0}
OwnApart (constant p t x e ∷ ts) = OwnApart ts
OwnApart (typedef p t x ∷ ts) = OwnApart ts
OwnApart (header_type p x fs ∷ ts) = OwnApart ts
OwnApart (struct_type p x fs ∷ ts) = OwnApart ts
OwnApart (register p r ∷ ts) = OwnApart ts
OwnApart (parser p d ∷ ts) = OwnApart ts
OwnApart (control p c ∷ ts) = ((x : List ℕ) → is_among (own_names c.locals) x ≡ true → is_function x ≡ false) × OwnApart ts

new_apart : (own : List (List ℕ)) → IsNew own → (x : List ℕ) → is_among own x ≡ true → is_function x ≡ false
new_apart own new x h = go (same_text x (codes "mark_to_drop")) (same_text x (codes "digest")) (same_text x (codes "verify_checksum")) (same_text x (codes "update_checksum")) refl refl refl refl
  where
    one : (y : List ℕ) → is_missing (core_name y) ≡ false → same_text x y ≡ true → false ≡ true
    one y some e = sym (new.apart y some) ∙ (ap (is_among own) (sym ((text_decides x y).0 e)) ∙ h)

    go : (a b c d : Bool) → same_text x (codes "mark_to_drop") ≡ a → same_text x (codes "digest") ≡ b → same_text x (codes "verify_checksum") ≡ c → same_text x (codes "update_checksum") ≡ d → (a || (b || (c || d))) ≡ false
    go true b c d e f g i = sym (one (codes "mark_to_drop") refl e)
    go false true c d e f g i = sym (one (codes "digest") refl f)
    go false false true d e f g i = sym (one (codes "verify_checksum") refl g)
    go false false false true e f g i = sym (one (codes "update_checksum") refl i)
    go false false false false e f g i = refl

more_kept : (s t : Scope) → Keeps s t → KeepsCore s → KeepsCore t
more_kept s t m k = record { kept = λ x some. m.kept x [] (ap is_missing (k.kept x some) ∙ some) ∙ k.kept x some }

core_kept : (main : List (List ℕ)) (s : Scope) (t : Top) → IsFine (tops_tests main s (t ∷ [])) → KeepsCore s → KeepsCore (after_top s t)
core_kept main s t f k = more_kept s (after_top s t) (after_top_keeps main s t f.0) k

own_apart : (main : List (List ℕ)) (ts : List Top) (s : Scope) → KeepsCore s → IsFine (tops_tests main s ts) → OwnApart ts
own_apart main [] s k f = tt
own_apart main (constant p t x e ∷ ts) s k f = own_apart main ts (after_top s (constant p t x e)) (core_kept main s (constant p t x e) (f.0, tt) k) f.1
own_apart main (typedef p t x ∷ ts) s k f = own_apart main ts (after_top s (typedef p t x)) (core_kept main s (typedef p t x) (f.0, tt) k) f.1
own_apart main (header_type p x fs ∷ ts) s k f = own_apart main ts (after_top s (header_type p x fs)) (core_kept main s (header_type p x fs) (f.0, tt) k) f.1
own_apart main (struct_type p x fs ∷ ts) s k f = own_apart main ts (after_top s (struct_type p x fs)) (core_kept main s (struct_type p x fs) (f.0, tt) k) f.1
own_apart main (register p r ∷ ts) s k f = own_apart main ts (after_top s (register p r)) (core_kept main s (register p r) (f.0, tt) k) f.1
own_apart main (parser p d ∷ ts) s k f = own_apart main ts (after_top s (parser p d)) (core_kept main s (parser p d) (f.0, tt) k) f.1
own_apart main (control p c ∷ ts) s k f = (new_apart (own_names c.locals) new, own_apart main ts (after_top s (control p c)) (core_kept main s (control p c) (f.0, tt) k) f.1)
  where
    new : IsNew (own_names c.locals)
    new = own_new (own_names c.locals) (with_ways s c.params) (more_kept s (with_ways s c.params) (with_ways_keeps s c.params f.0.1.0) k) (own_missing (part_in main c.name) c.locals (with_ways s c.params) f.0.1.1.0)

pub apart : (p : Program) → IsWellTyped p → OwnApart p.tops
apart p w = own_apart p.main p.tops core core_keeps (unbroken_fine (program_tests p) w).0
