-- One packet more, which the host sends or not.
use Rattle.std.proofs.Common.{◌≡◌, ℕ, ◌+◌, ◌<◌, List, [], ◌∷◌, ◌++◌, ◌==◌, Bool, true, false, cond, length, map, take, get_or, sym, ap, ◌∙◌, ne_eqb, eq-eqb}
use Rattle.std.proofs.lemmas.List.{map_push, append-nil}
use Rattle.std.proofs.lemmas.List.Elements.{filter_more}
use Rattle.pcap_io.specs.Record.{record_of, records_of}
use Rattle.pcap_io.specs.declared.captured.Captured.{Captured}
use Rattle.load_maker.specs.Captures.{record_for, sent_by}
use Rattle.load_maker.specs.declared.packet.Packet.{Packet}

module _ (k : ℕ) (ps : List Packet) (i : ℕ) (d : Packet) (inside : i < length ps) where
  by_test : (b : Bool) → ((get_or ps i d).source.number == k) ≡ b → sent_by k (take (i + 1) ps) ≡ sent_by k (take i ps) ++ cond b (get_or ps i d ∷ []) []
  by_test b e = filter_more (λ p. p.source.number == k) ps i d inside ∙ ap (λ t. sent_by k (take i ps) ++ cond t (get_or ps i d ∷ []) []) e

  pub record_more : (old new : List Captured) (x : Captured) → (get_or ps i d).source.number ≡ k → new ≡ old ++ x ∷ [] → record_of x ≡ record_for (get_or ps i d)
      → records_of old ≡ map record_for (sent_by k (take i ps)) → records_of new ≡ map record_for (sent_by k (take (i + 1) ps))
  record_more old new x own push is before =
      ap records_of push ∙ map_push record_of old x ∙ ap (λ rs. rs ++ record_of x ∷ []) before
      ∙ ap (λ r. map record_for (sent_by k (take i ps)) ++ r ∷ []) is
      ∙ sym (map_push record_for (sent_by k (take i ps)) (get_or ps i d))
      ∙ ap (map record_for) (sym (by_test true (eq-eqb (get_or ps i d).source.number k own)))

  pub record_past : (old : List Captured) → ((get_or ps i d).source.number ≡ k → ⊥)
      → records_of old ≡ map record_for (sent_by k (take i ps)) → records_of old ≡ map record_for (sent_by k (take (i + 1) ps))
  record_past old other before =
      before ∙ ap (map record_for) (sym (by_test false (ne_eqb (get_or ps i d).source.number k other) ∙ append-nil (sent_by k (take i ps))))
