-- A program without exits has all this of the given one.
use Rattle.std.proofs.Common.{◌≡◌, ℕ, List, [], ◌∷◌, map, Result, Ok, Err, IfOk, refl, sym, ap, ◌∙◌, subst}
use Rattle.p4_tree.specs.Tree.{Program}
use Rattle.p4_meaning.specs.Actions.{Param, Action}
use Rattle.p4_meaning.specs.Parts.{Parts, parts_of}
use Rattle.p4_meaning.specs.DigestBound.{digest_bound}
use Rattle.p4_rules.specs.ProgramRules.{IsWellTyped}
use Rattle.p4_types.specs.Counts.{AreCounts}
use Rattle.p4_types.specs.declared.typed.Counts.{Counts}
use Rattle.exit_statements.specs.Actions.{action_without}
use Rattle.exit_statements.specs.WrittenActions.{returned_in}
use Rattle.exit_programs.specs.Programs.{flags, program_without}
use Rattle.exit_programs.specs.Names.{HasGivenNames, HasPlainNames}
use Rattle.exit_programs.specs.Owned.{all_actions}
use Rattle.exit_programs.specs.Without.{parts_without}
use Rattle.exit_programs.proofs.Left.{none_left, stays_as_it_is}
use Rattle.exit_programs.proofs.Stand.{names_stand}
use Rattle.exit_programs.proofs.Sized.{size_bounded, height_bounded}
use Rattle.exit_programs.proofs.Agreed.{parts_agree, bound_stays}
use Rattle.exit_passages.specs.Passages.{PassesSame}
use Rattle.exit_passages.proofs.Halves.{passes_agree}
use Rattle.p4_typing_laws.specs.Plain.{IsPlain}
use Rattle.exit_names.proofs.Names.{tops_names}
use Rattle.exit_names.proofs.Programs.{controls_own}
use Rattle.exit_rules.proofs.WellTyped.{digests_same, bytes_same, cells_same}
use Rattle.exit_rewriting.proofs.Spelled.{stays_spelled}
use Rattle.exit_rewriting.proofs.Plain.{plain_if_spelled}
use Rattle.exit_lowering.specs.Lowered.{signature, IsLowered, Lowers}
use Rattle.exit_lowering.proofs.Places.{verify_stays, compute_stays, deparser_stays}
use Rattle.exit_lowering.proofs.Numbered.{numbers_same}

signatures : (as' : List Action) → map signature (map (action_without flags.left (returned_in flags)) as') ≡ map signature as'
signatures [] = refl
signatures (a ∷ as') = ap (λ (xs : List (List ℕ × List Param)). signature a ∷ xs) (signatures as')

module _ (p : Program) (w : IsWellTyped p) (given : HasGivenNames p) where
  agree : parts_of (program_without p) ≡ parts_without p
  agree = parts_agree p w given (verify_stays p w) (compute_stays p w) (deparser_stays p w)

  passes : HasPlainNames p → PassesSame (parts_of p) (parts_of (program_without p))
  passes plain =
      (let own = controls_own p w given plain in
      subst (PassesSame (parts_of p)) (sym agree) (passes_agree p w given (tops_names IsPlain (λ x. Unit {0}) (λ x h. h) (λ x h. tt) p.tops plain.tops) own.0 own.1 own.2))

  pub lowered : IsLowered p (program_without p)
  lowered =
      record {
        is = refl;
        none_left = none_left p;
        unchanged = stays_as_it_is p;
        passes = passes;
        bound = ap digest_bound agree ∙ bound_stays p;
        most = digests_same p w given;
        tables = ap (λ (x : Parts). x.tables) agree;
        registers = ap (λ (x : Parts). x.registers) agree;
        actions = ap (λ (x : Parts). map signature x.actions) agree ∙ signatures (all_actions p);
        numbers = λ s. numbers_same s p;
        names_stand = λ x h. names_stand p x h;
        spelled = stays_spelled p;
        plain = plain_if_spelled p;
        size = size_bounded p;
        high = height_bounded p;
      }

pub lowers : Lowers
lowers p w given = lowered p w given

pub counts_same : (p : Program) (c : Counts) → IsWellTyped p → HasGivenNames p → AreCounts p c → AreCounts (program_without p) c
counts_same p c w given k = record { header_bytes = k.header_bytes ∙ sym (bytes_same p); digest_bound = k.digest_bound ∙ sym (digests_same p w given); cells = k.cells ∙ sym (cells_same p) }

-- what follows from what an answer says
pub still_ok : {A E : Type 0} (P Q : A → Type 0) (r : Result A E) → ((a : A) → P a → Q a) → IfOk r P → IfOk r Q
still_ok P Q (Ok a) f h = f a h
still_ok P Q (Err e) f h = tt
