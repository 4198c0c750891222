-- What is written to variables of reads leaves a run standing for its state.
use Rattle.std.proofs.Common.{◌≡◌, ℕ, List, [], ◌∷◌, Bool, true, false, cond, ◌&&◌, refl, ap, ◌∙◌}
use Rattle.std.specs.List.{filter}
use Rattle.std.proofs.lemmas.Bool.{and_right}
use Rattle.bit_values.specs.Bits.{Word}
use Rattle.bit_values.specs.Widths.{sound_width, cast_word}
use Rattle.lex_text.specs.Names.{same_text, same_path}
use Rattle.p4_meaning.specs.Store.{Store, set_value}
use Rattle.p4_meaning.specs.Value as p4v
use Rattle.p4_meaning.specs.Statements.{Run, in_store}
use Rattle.p4_meaning.proofs.Words.{sound, sound_wide, sound_narrow}
use Rattle.network_run.specs.PathMeaning.{Doing}
use Rattle.indus_tree.specs.State.{Held}
use Rattle.own_code.specs.Relations.{is_report}
use Rattle.own_code.proofs.Apart.{path_decides}
use Rattle.monitor_laws.proofs.Frames.{others_same, others_then, others_set}
use Rattle.lookup_names.specs.Names.{found_name, key_name}
use Rattle.lowered_code.specs.Names.{sensor_name}
use Rattle.lowered_code.specs.Statements.{Var}
use Rattle.lowered_code.specs.Standing.{Setting, HasWidths, Stands}
use Rattle.lowered_code.specs.Lookups.{Scratch}

-- what is written can be read
pub reads_back : (s : Store) (p : List (List ℕ)) (w : Word) → (set_value s p w).values p ≡ w
reads_back s p w = ap (λ b. cond b w (s.values p)) ((path_decides p p).1 refl)

-- ---- widths

sound_twice : (w : ℕ) → sound_width (sound_width w) ≡ sound_width w
sound_twice w = sound (sound_width w) (sound_wide w) (sound_narrow w)

-- a word that is cast to the width that is there keeps all widths
pub widths_set : (vars : List Var) (s : Store) (p : List (List ℕ)) (v : Word) → HasWidths vars s → HasWidths vars (set_value s p (cast_word (sound_width (s.values p).width) v))
widths_set [] s p v h = tt
widths_set (l ∷ ls) s p v h = (one (same_path p (l.1 ∷ [])) refl, widths_set ls s p v h.1)
  where
    one : (b : Bool) → same_path p (l.1 ∷ []) ≡ b → (cond b (cast_word (sound_width (s.values p).width) v) (s.values (l.1 ∷ []))).width ≡ sound_width (p4v.width_of l.0)
    one true e = ap (λ q. sound_width (s.values q).width) ((path_decides p (l.1 ∷ [])).0 e) ∙ ap sound_width h.0 ∙ sound_twice (p4v.width_of l.0)
    one false e = h.0

-- ---- variables of reads

module _ (vars : List Var) where
  pub scratch_same : (n : ℕ) (q : Run) → Scratch vars n q q
  scratch_same n q = record { long = λ x y rest. refl; found = λ m o. refl; rejected = refl; headers = refl; cells = refl; digests = refl; widths = λ w. w; others = others_same q }

  pub scratch_then : (n : ℕ) (q r s : Run) → Scratch vars n q r → Scratch vars n r s → Scratch vars n q s
  scratch_then n q r s i j =
      record {
        long = λ x y rest. j.long x y rest ∙ i.long x y rest;
        found = λ m o. j.found m o ∙ i.found m o;
        rejected = j.rejected ∙ i.rejected;
        headers = j.headers ∙ i.headers;
        cells = j.cells ∙ i.cells;
        digests = j.digests ∙ i.digests;
        widths = λ w. j.widths (i.widths w);
        others = others_then q r s i.others j.others;
      }

  -- the variable of what is found is written, or one of a key
  pub scratch_found : (n : ℕ) (q : Run) (v : Word) → Scratch vars n q (in_store q (set_value q.store (found_name n ∷ []) (cast_word (sound_width (q.store.values (found_name n ∷ [])).width) v)))
  scratch_found n q v =
      let w = cast_word (sound_width (q.store.values (found_name n ∷ [])).width) v in
      record {
        long = λ x y rest. ap (λ b. cond b w (q.store.values (x ∷ y ∷ rest))) (and_right (same_text (found_name n) x) false refl);
        found = λ m o. ap (λ b. cond (b && true) w (q.store.values (found_name m ∷ []))) o;
        rejected = refl;
        headers = refl;
        cells = refl;
        digests = refl;
        widths = λ h. widths_set vars q.store (found_name n ∷ []) v h;
        others = others_set q (found_name n ∷ []) w refl;
      }

  pub scratch_key : (n m i : ℕ) (q : Run) (v : Word) → Scratch vars n q (in_store q (set_value q.store (key_name m i ∷ []) (cast_word (sound_width (q.store.values (key_name m i ∷ [])).width) v)))
  scratch_key n m i q v =
      let w = cast_word (sound_width (q.store.values (key_name m i ∷ [])).width) v in
      record {
        long = λ x y rest. ap (λ b. cond b w (q.store.values (x ∷ y ∷ rest))) (and_right (same_text (key_name m i) x) false refl);
        found = λ k o. refl;
        rejected = refl;
        headers = refl;
        cells = refl;
        digests = refl;
        widths = λ h. widths_set vars q.store (key_name m i ∷ []) v h;
        others = others_set q (key_name m i ∷ []) w refl;
      }

-- a run that stands for a state still does
pub scratch_stands : (p : Setting) (n : ℕ) (q r : Run) (d : Doing Held Held) → Scratch p.vars n q r → Stands p q d → Stands p r d
scratch_stands p n q r d i s =
    record {
      tele = λ x c is k. i.long _ _ _ ∙ s.tele x c is k;
      sensors = λ x c is k. ap (λ g. g (sensor_name x)) i.cells ∙ s.sensors x c is k;
      shaped = s.shaped;
      fill = i.long _ _ _ ∙ s.fill;
      rejected = λ e. i.rejected ∙ s.rejected e;
      reports = ap (filter is_report) i.digests ∙ s.reports;
      widths = i.widths s.widths;
      others = others_then p.start q r s.others i.others;
    }
