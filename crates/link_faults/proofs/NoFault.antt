-- What it says that a program has no fault.
use Rattle.std.proofs.Common.{◌≡◌, Bool, true, false, cond, Option, Some, None, nat_lt, le-ltb, refl, ap}
use Rattle.std.proofs.lemmas.Bool.{ltb-false}
use Rattle.std.specs.Option.{option_map}
use Rattle.indus_types.specs.Sums.{cut, cut_wide, property_bits, property_weight}
use Rattle.tele_layout.specs.Telemetry.{whole_bytes}
use Rattle.lower_lists.specs.FlatProperty.{greatest_weight}
use Rattle.p4_rules.specs.ProgramRules.{program_scope}
use Rattle.link_faults.specs.Refusals.{name_taken, room_short, too_large, or_else}
use Rattle.link_faults.specs.HeaderFields.{fields_fault}
use Rattle.link_faults.specs.WrittenNames.{names_of_program, first_taken}
use Rattle.link_faults.specs.Faults.{taken_fault, room_fault, weight_fault, link_fault}
use Rattle.link_faults.specs.NoFault.{HasNoFault, NoFaultSays}

none_first : {A : Type 0} (a b : Option A) → or_else a b ≡ None → a ≡ None
none_first None b h = refl
none_first (Some x) b h = absurd (cc)

none_rest : {A : Type 0} (a b : Option A) → or_else a b ≡ None → b ≡ None
none_rest None b h = h
none_rest (Some x) b h = absurd (cc)

none_both : {A : Type 0} (a b : Option A) → a ≡ None → b ≡ None → or_else a b ≡ None
none_both None b h k = k
none_both (Some x) b h k = absurd (cc)

-- a test that gives no refusal
none_given : {A : Type 0} (b : Bool) (x : A) → cond b (Some x) None ≡ None → b ≡ false
none_given true x h = absurd (cc)
none_given false x h = refl

none_mapped : {A B : Type 0} (g : A → B) (o : Option A) → option_map g o ≡ None → o ≡ None
none_mapped g None h = refl
none_mapped g (Some x) h = absurd (cc)

pub no_fault_says : NoFaultSays
no_fault_says f p room = (says, said)
  where
    says : link_fault f p room ≡ None → HasNoFault f p room
    says h =
        let behind = none_rest (fields_fault (program_scope f) f p.decls) (or_else (taken_fault f) (or_else (room_fault p room) (weight_fault p))) h in
        let numbers = none_rest (taken_fault f) (or_else (room_fault p room) (weight_fault p)) behind in
        record {
          fields = none_first (fields_fault (program_scope f) f p.decls) (or_else (taken_fault f) (or_else (room_fault p room) (weight_fault p))) h;
          names = none_mapped name_taken (first_taken (names_of_program f)) (none_first (taken_fault f) (or_else (room_fault p room) (weight_fault p)) behind);
          room = ltb-false room (whole_bytes (property_bits p)) (none_given (nat_lt room (whole_bytes (property_bits p))) (room_short (whole_bytes (cut_wide (property_bits p))) room) (none_first (room_fault p room) (weight_fault p) numbers));
          weight = ltb-false greatest_weight (property_weight p) (none_given (nat_lt greatest_weight (property_weight p)) (too_large (cut (property_weight p))) (none_rest (room_fault p room) (weight_fault p) numbers));
        }

    said : HasNoFault f p room → link_fault f p room ≡ None
    said h =
        none_both (fields_fault (program_scope f) f p.decls) (or_else (taken_fault f) (or_else (room_fault p room) (weight_fault p))) h.fields
        (none_both (taken_fault f) (or_else (room_fault p room) (weight_fault p)) (ap (option_map name_taken) h.names)
        (none_both (room_fault p room) (weight_fault p)
        (ap (λ (b : Bool). cond b (Some (room_short (whole_bytes (cut_wide (property_bits p))) room)) None) (le-ltb room (whole_bytes (property_bits p)) h.room))
        (ap (λ (b : Bool). cond b (Some (too_large (cut (property_weight p)))) None) (le-ltb greatest_weight (property_weight p) h.weight))))
