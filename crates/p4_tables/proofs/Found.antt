-- What the walk over a table's entries finds is the choice, whatever the actions are called.
use Rattle.std.proofs.Common.{◌≡◌, ℕ, List, [], ◌∷◌, map, Bool, true, false, cond, Option, Some, None, refl, ap, subst, ◌∙◌}
use Rattle.std.specs.Prelude.{nat_lt}
use Rattle.std.specs.Bool.{OnTrue, OnFalse}
use Rattle.std.specs.Option.{option_map}
use Rattle.std.proofs.lemmas.Bool.{false≢true}
use Rattle.bit_values.specs.Bits.{Word}
use Rattle.p4_meaning.specs.Choice as choice
use Rattle.p4_meaning.specs.Choice.{fits_keys, higher, IsChoice, choice_of}
use Rattle.p4_meaning.proofs.Choices.{choice_is}
use Rattle.table_shapes.specs.Shapes.{has_ternary}
use Rattle.table_entries.specs.Entries.{Entry, Act, act_in, named}
use Rattle.p4_tables.specs.State.{Held}
use Rattle.p4_tables.specs.Answers.{IsHit, IsMiss}
use Rattle.table_entries.specs.Walk.{rank_in, higher_in, found_in}

module _ (name : ℕ → List ℕ) (t : Bool) where
  higher_named : (e : Entry) (o : Option Entry) → higher t (named name e) (option_map (named name) o) ≡ named name (higher_in t e o)
  higher_named e None = refl
  higher_named e (Some f) = go (nat_lt (rank_in t e) (rank_in t f))
    where
      go : (b : Bool) → cond b (named name f) (named name e) ≡ named name (cond b f e)
      go true = refl
      go false = refl

  pub choice_named : (es : List Entry) (ks : List Word) → choice_of t (map (named name) es) ks ≡ option_map (named name) (found_in t es ks)
  choice_named [] ks = refl
  choice_named (e ∷ es) ks = go (choice_named es ks) (fits_keys e.keys ks)
    where
      go : choice_of t (map (named name) es) ks ≡ option_map (named name) (found_in t es ks) → (b : Bool) → cond b (Some (higher t (named name e) (choice_of t (map (named name) es) ks))) (choice_of t (map (named name) es) ks) ≡ option_map (named name) (cond b (Some (higher_in t e (found_in t es ks))) (found_in t es ks))
      go rest true = ap (λ (o : Option choice.Entry). Some (higher t (named name e) o)) rest ∙ ap (λ (f : choice.Entry). Some f) (higher_named e (found_in t es ks))
      go rest false = rest

  -- what is found is a choice
  found_is : (es : List Entry) (ks : List Word) (o : Option Entry) → found_in t es ks ≡ o → IsChoice t (map (named name) es) ks (option_map (named name) o)
  found_is es ks o is = subst (IsChoice t (map (named name) es) ks) (choice_named es ks ∙ ap (option_map (named name)) is) (choice_is t ks (map (named name) es))

pub hit : (h : Held) (ks : List Word) (e : Entry) (a : Act) → found_in (has_ternary h.shape.keys) h.listed ks ≡ Some e → a.action ≡ e.action → a.args ≡ e.args → IsHit h ks a
hit h ks e a is action args = record { entry = e; action = action; args = args; chosen = λ name. found_is name (has_ternary h.shape.keys) h.listed ks (Some e) is; first = λ name. choice_named name (has_ternary h.shape.keys) h.listed ks ∙ ap (option_map (named name)) is }

pub miss : (h : Held) (ks : List Word) (a : Act) → found_in (has_ternary h.shape.keys) h.listed ks ≡ None → a ≡ h.default → IsMiss h ks a
miss h ks a is default = record { default = default; chosen = λ name. found_is name (has_ternary h.shape.keys) h.listed ks None is }

-- an act is that of an entry that is found
pub record IsOfEntry (o : Option Entry) (a : Act) : Type 0 where
  pub entry : Entry
  pub found : o ≡ Some entry
  pub runs : act_in entry ≡ a

pub some_entry : (o : Option Entry) (a : Act) → option_map act_in o ≡ Some a → IsOfEntry o a
some_entry None a is = absurd (cc is)
some_entry (Some e) a is = record { entry = e; found = refl; runs = cc is }

pub no_act : (o : Option Entry) → option_map act_in o ≡ None → o ≡ None
no_act None is = refl
no_act (Some e) is = absurd (cc is)

pub on_true : {X : Type 0} (b : Bool) → X → OnTrue b X
on_true true x = x
on_true false x = tt

pub not_false : (X : Type 0) (b : Bool) → b ≡ true → OnFalse b X
not_false X true is = tt
not_false X false is = absurd (false≢true is)
