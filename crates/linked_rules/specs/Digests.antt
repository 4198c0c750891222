-- How many digests a lowering's statements tell, and a linked program. Read `Passes` before it, and `Digests` of
-- `p4_declaration_rules`.
use Rattle.std.specs.Prelude.{◌≡◌, ℕ, List, [], ◌∷◌}
use Rattle.p4_tree.specs.Tree.{Top, control}
use Rattle.p4_meaning.specs.Scope.{Roots}
use Rattle.p4_scopes.specs.Scopes.{Scope, add_up}
use Rattle.p4_declaration_rules.specs.Digests.{most_of}
use Rattle.p4_declaration_rules.specs.Controls.{after_locals, after_top, most_of_top}
use Rattle.p4_rule_laws.specs.Kept.{Keeps}
use Rattle.linked_programs.specs.Lowered.{Lowered}
use Rattle.linked_programs.specs.Linked.{Place, is_ingress, is_egress, is_deparser, is_other, place_in}
use Rattle.linked_rules.specs.Passes.{front_scope, Offers, Shows}

-- e, x: the most that the statements of the entry part tell, and those of the exit part
pub record Tells (l : Lowered) (S : Scope) (H M : List ℕ) (r q : Roots) (e x : ℕ) : Type 0 where
  pub entry :
      (s : ℕ) (v z : Scope) → Offers r (front_scope l s) z → Shows S H M r z → Keeps (after_locals v l.entry_locals) z →
      most_of z l.entry ≡ e
  pub exit :
      (s : ℕ) (v z : Scope) → Offers q (front_scope l s) z → Shows S H M q z → Keeps (after_locals v l.exit_locals) z →
      most_of z l.exit ≡ x

-- what the program's controls tell, and in their places the lowering's parts
abbrev pub told_more : (e x : ℕ) → Place → ℕ
told_more e x is_ingress = e
told_more e x is_egress = x
told_more e x is_deparser = 0
told_more e x is_other = 0

abbrev pub told_top : (main : List (List ℕ)) (e x : ℕ) → Scope → Top → ℕ
told_top main e x s (control q c) = add_up (told_more e x (place_in main c.name)) (most_of_top main s (control q c))
told_top main e x s t = most_of_top main s t

abbrev pub told : (main : List (List ℕ)) (e x : ℕ) → Scope → List Top → ℕ
told main e x s [] = 0
told main e x s (t ∷ ts) = add_up (told_top main e x s t) (told main e x (after_top s t) ts)
