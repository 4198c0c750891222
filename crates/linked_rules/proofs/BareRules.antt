-- The promises of the rules can be kept: a lowering with nothing but the mark and the flags keeps them.
use Rattle.std.proofs.Common.{ℕ, ◌<◌, ◌^◌, List, not, arith, refl, ap}
use Rattle.rule_tests.specs.Tests.{IsFine}
use Rattle.p4_meaning.specs.Scope.{Roots}
use Rattle.p4_scopes.specs.Scopes.{Scope, declare, core}
use Rattle.p4_declaration_rules.specs.Controls.{tops_tests}
use Rattle.monitor_laws.specs.Names.{first_name, last_name, rejected_name}
use Rattle.linked_programs.specs.Linked.{front}
use Rattle.linked_programs.specs.Bare.{bare}
use Rattle.linked_rules.specs.Passes.{Passes}
use Rattle.linked_rules.specs.Digests.{Tells}
use Rattle.linked_rules.specs.Form.{DeclaresItsOwn}
use Rattle.linked_rules.specs.BareRules.{RulesCanBeKept}

declares_own : DeclaresItsOwn bare
declares_own = record { tops = (refl, (refl, tt)); entry_locals = tt; exit_locals = (refl, (refl, (refl, tt))); entry = tt; exit = tt }

module _ (S : Scope) (H M : List ℕ) (r q : Roots) where
  front_is_fine : (s : ℕ) → s < 2 ^ 16 → (main : List (List ℕ)) → IsFine (tops_tests main core (front bare s))
  unfolding core declare
  front_is_fine s small main = ((refl, ((refl, refl), refl)), ((refl, (refl, (((refl, refl), tt), refl))), ((refl, ((refl, refl), (((refl, refl), (refl, refl)), tt))), tt)))

  bare_passes : Passes bare S H M r q
  unfolding core declare
  bare_passes =
      record {
        marked = omega arith;
        front = front_is_fine;
        bits = 8;
        tele_type = λ s. refl;
        mark = λ s. refl;
        rejects = λ s. refl;
        entry_locals = λ s v o w f. tt;
        exit_locals = λ s v o w f.
            ((refl, (ap not (f first_name refl refl), ((tt, refl), tt))), ((refl, (ap not (f last_name refl refl), ((tt, refl), tt))), ((refl, (ap not (f rejected_name refl refl), ((tt, refl), tt))), tt)));
        entry = λ s v z o w k. tt;
        exit = λ s v z o w k. tt;
        stays = λ z. refl;
        first = λ v. refl;
        last = λ v. refl;
        rejected = λ v. refl;
        count = λ v. refl;
        no_count = λ s. refl;
        no_taken = λ s. refl;
        no_start = λ s. refl;
      }

  bare_tells : Tells bare S H M r q 0 0
  bare_tells = record { entry = λ s v z o w k. refl; exit = λ s v z o w k. refl }

pub rules_can_be_kept : RulesCanBeKept
rules_can_be_kept S H M r q = record { passes = bare_passes S H M r q; tells = bare_tells S H M r q; names = declares_own }
