-- Where stores differ in variables alone, header variables read the same.
use Rattle.std.proofs.Common.{◌≡◌, ℕ, List, [], ◌∷◌, map, Option, Some, None, refl, ap, ap₂}
use Rattle.std.specs.List.{AllByRecursion}
use Rattle.std.specs.Option.{option_map}
use Rattle.bit_values.specs.Bits.{Word}
use Rattle.bit_values.specs.Widths.{bit}
use Rattle.lex_text.specs.Names.{parent}
use Rattle.p4_tree.specs.Tree.{Expr, path, valid}
use Rattle.p4_meaning.specs.Store.{Store, shown}
use Rattle.p4_meaning.specs.Value.{is_valid, value_of}
use Rattle.p4_meaning.specs.Tables.{Tables}
use Rattle.p4_meaning.specs.Pass.{Going, Leaving}
use Rattle.exit_statements.specs.Controls.{SameButVariables, sent_of}
use Rattle.exit_passages.specs.Passages.{SameEnds, LeavesSame}
use Rattle.switch_machines.specs.Programs.{view_of, network_digest, going_of, leaving_of}
use Rattle.monitor_laws.specs.MonitorLaws.{IsView}

module _ (s t : Store) (same : SameButVariables s t) where
  value_same : (e : Expr) → IsView e → value_of e 0 t ≡ value_of e 0 s
  value_same (path p []) v = absurd (cc v.1)
  value_same (path p (x ∷ [])) v = absurd (cc v.1)
  value_same (path p (x ∷ y ∷ rest)) v = ap₂ shown (ap (λ h. h (parent (x ∷ y ∷ rest))) same.headers) (same.values (x ∷ y ∷ rest) refl)
  value_same (valid p header) v = ap (λ h. bit (is_valid (h header))) same.headers
  value_same _ v = absurd v

  view_same : (es : List Expr) → AllByRecursion IsView es → view_of es t ≡ view_of es s
  view_same [] v = refl
  view_same (e ∷ es) v = ap₂ (λ (w : Word) (ws : List Word). w ∷ ws) (value_same e v.0) (view_same es v.1)

module _ (es : List Expr) (views : AllByRecursion IsView es) where
  going_same : (a b : Option Going) → option_map sent_of b ≡ option_map sent_of a → SameEnds a b
      → option_map (going_of (view_of es)) b ≡ option_map (going_of (view_of es)) a
  going_same None None sent ends = refl
  going_same None (Some h) sent ends = absurd ends
  going_same (Some g) None sent ends = absurd ends
  going_same (Some g) (Some h) sent ends =
      let left : sent_of h ≡ sent_of g = cc sent in
      let port : h.port ≡ g.port = ap (λ (x : ℕ × List ℕ). x.0) left in
      let frame : h.frame ≡ g.frame = ap (λ (x : ℕ × List ℕ). x.1) left in
      let view = view_same g.exit_state h.exit_state ends es views in
      λ i. Some (record { port = port i; frame = frame i; view = view i })

  -- what a switch keeps and does behind the exit half
  pub leaving_same : (held : Tables) (a b : Leaving) → LeavesSame a b → leaving_of (view_of es) held b ≡ leaving_of (view_of es) held a
  leaving_same held a b same =
      let going = going_same a.going b.going same.sent_same same.ends in
      let registers = same.registers in
      let digests = same.digests in
      λ i. record { after = record { registers = registers i; tables = held }; digests = map network_digest (digests i); going = going i }
