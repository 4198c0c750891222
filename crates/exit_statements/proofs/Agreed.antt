-- The laws, of all statements.
use Rattle.std.proofs.Common.{◌≡◌, ℕ, List, [], ◌∷◌, Bool, true, false, not, cond, refl, sym, ap, ◌∙◌}
use Rattle.lex_text.specs.Names.{same_text}
use Rattle.exit_statements.specs.Without.{Flags}
use Rattle.exit_statements.specs.Free.{Hides, shows}
use Rattle.exit_statements.specs.Laws.{Keeps, is_other, ListsAgree, NoneIsLeft, StaySame}
use Rattle.exit_statements.proofs.Left.{stmts_none, stmts_same}
use Rattle.exit_statements.proofs.Runs.{shown_less, others, list_ends}
use Rattle.exit_statements.proofs.Values.{text_decides, not_both}

-- that stays where a name is shown that is no action's own
pub keeps_shown : (own seen : List ℕ → Bool) (hides : Hides) (x : List ℕ) → is_other own x ≡ true → Keeps own seen hides → Keeps own seen (shows hides x)
keeps_shown own seen hides x other h =
    record {
      own_hidden = λ y is. ap (λ b. cond b false (hides (y ∷ []))) (others y x (go y is (same_text y x) refl)) ∙ h.own_hidden y is;
      seen_shown = λ y is. shown_less hides x (y ∷ []) (h.seen_shown y is);
    }
  where
    not_own : (b : Bool) → not b ≡ true → b ≡ false
    not_own true e = absurd (cc e)
    not_own false e = refl

    go : (y : List ℕ) → own y ≡ true → (b : Bool) → same_text y x ≡ b → b ≡ false
    go y is true e = not_both (own x) (sym (ap own ((text_decides y x).0 e)) ∙ is) (not_own (own x) other)
    go y is false e = refl

-- two names differ either way
pub turned : (n : Flags) → same_text n.returned n.left ≡ false → same_text n.left n.returned ≡ false
turned n e = go (same_text n.left n.returned) refl
  where
    go : (b : Bool) → same_text n.left n.returned ≡ b → b ≡ false
    go true t = not_both (same_text n.returned n.left) ((text_decides n.returned n.left).1 (sym ((text_decides n.left n.returned).0 t))) e
    go false t = refl

pub lists_agree : ListsAgree
lists_agree n body own seen m c d two agree hides f k ss left a b free h g =
    list_ends n body (Keeps own seen) (is_other own) m c d agree (others n.left n.returned (turned n two)) (λ hs x o k'. keeps_shown own seen hs x o k') ss left hides a b f k free h g

pub none_is_left : NoneIsLeft
none_is_left n m body left ss = stmts_none n m body left ss

pub stay_same : StaySame
stay_same n m body ss h = stmts_same n m body ss h
