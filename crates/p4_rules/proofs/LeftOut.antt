-- What `main` leaves out rests on which names it holds.
use Rattle.std.proofs.Common.{◌≡◌, ℕ, List, [], ◌∷◌, Bool, not, ◌||◌, refl, ap, ◌∙◌}
use Rattle.p4_tree.specs.Tree.{Top, constant, typedef, header_type, struct_type, register, parser, control}
use Rattle.p4_parser_states.specs.Cycles.{is_among}
use Rattle.p4_rules.specs.Mains.{leaves_out, leaves_some_out}

module _ (xs ys : List (List ℕ)) (same : (x : List ℕ) → is_among xs x ≡ is_among ys x) where
  one_same : (t : Top) → leaves_out xs t ≡ leaves_out ys t
  one_same (constant p t x e) = refl
  one_same (typedef p t x) = refl
  one_same (header_type p x fs) = refl
  one_same (struct_type p x fs) = refl
  one_same (register p r) = refl
  one_same (parser p d) = ap not (same d.name)
  one_same (control p c) = ap not (same c.name)

  pub left_out_same : (ts : List Top) → leaves_some_out xs ts ≡ leaves_some_out ys ts
  left_out_same [] = refl
  left_out_same (t ∷ ts) = ap (λ (b : Bool). b || leaves_some_out xs ts) (one_same t) ∙ ap (λ (b : Bool). leaves_out ys t || b) (left_out_same ts)
