-- The two halves of a pass, from what their steps give.
use Rattle.std.proofs.Common.{◌≡◌, ℕ, List, ◌++◌, true, false, Option, Some, None, sym, ap, ap₂, ◌∙◌}
use Rattle.bit_values.specs.Bits.{cast}
use Rattle.p4_meaning.specs.Standard.{egress_port}
use Rattle.p4_meaning.specs.Store.{Store}
use Rattle.p4_meaning.specs.Statements.{Digest}
use Rattle.bit_writer.specs.Bytes.{bytes_of}
use Rattle.p4_meaning.specs.Parsing.{deparse_of}
use Rattle.p4_meaning.specs.Tables.{Tables}
use Rattle.p4_meaning.specs.Parts.{Parts}
use Rattle.p4_meaning.specs.Pass.{Registers, Queued, Going, is_dropped, to_egress, unless_dropped, store_behind, parts_enter, parts_leave}
use Rattle.p4_passages.specs.Waiting.{goes_to}
use Rattle.p4_packets.specs.Ends.{parser_ends}
use Rattle.p4_passages.specs.Halves.{ingress_run, egress_run, computed}

module _ (p : Parts) (held : Tables) (cells : Registers) where
  module _ (port : ℕ) (frame : List ℕ) (s : Store) (store : s ≡ store_behind (parser_ends p port frame)) where
    pub entered_cells : (l : Registers) → l ≡ (ingress_run p held s cells).cells → l ≡ (parts_enter p held cells port frame).registers
    unfolding parts_enter
    entered_cells l e = e ∙ ap (λ (t : Store). (ingress_run p held t cells).cells) store

    pub entered_digests : (front l : List Digest) → l ≡ front ++ (ingress_run p held s cells).digests → l ≡ front ++ (parts_enter p held cells port frame).digests
    unfolding parts_enter
    entered_digests front l e = e ∙ ap (λ (t : Store). front ++ (ingress_run p held t cells).digests) store

    pub entered_queued : (t : Store) (rest : List ℕ) (o : Option Queued) → t ≡ (ingress_run p held s cells).store → rest ≡ (parser_ends p port frame).reading.rest → o ≡ unless_dropped (is_dropped t) (record { store = to_egress p t; rest = rest }) → o ≡ (parts_enter p held cells port frame).queued
    unfolding parts_enter
    entered_queued t rest o after left e =
        e ∙ ap₂ (λ (t : Store) (l : List ℕ). let q : Queued = record { store = to_egress p t; rest = l } in unless_dropped (is_dropped t) q) (after ∙ ap (λ (t : Store). (ingress_run p held t cells).store) store) left

  module _ (q : Queued) (s : Store) (store : s ≡ q.store) where
    pub left_cells : (l : Registers) → l ≡ (egress_run p held s cells).cells → l ≡ (parts_leave p held cells q).registers
    unfolding parts_leave
    left_cells l e = e ∙ ap (λ (t : Store). (egress_run p held t cells).cells) store

    pub left_digests : (front l : List Digest) → l ≡ front ++ (egress_run p held s cells).digests → l ≡ front ++ (parts_leave p held cells q).digests
    unfolding parts_leave
    left_digests front l e = e ∙ ap (λ (t : Store). front ++ (egress_run p held t cells).digests) store

    -- what the exit half gives, from the store behind egress
    abbrev going_from : Store → List ℕ → Option (ℕ × List ℕ)
    going_from t rest = goes_to (unless_dropped (is_dropped t) (let g : Going = record { port = cast 9 (t.values egress_port).value; frame = bytes_of (deparse_of p.headers p.emits (computed p t) ++ rest); exit_state = t } in g))

    going_is : (t : Store) → t ≡ (egress_run p held s cells).store → going_from t q.rest ≡ goes_to (parts_leave p held cells q).going
    unfolding parts_leave
    going_is t after = ap (λ (t : Store). going_from t q.rest) (after ∙ ap (λ (t : Store). (egress_run p held t cells).store) store)

    pub left_dropped : (t : Store) → t ≡ (egress_run p held s cells).store → is_dropped t ≡ true → None ≡ goes_to (parts_leave p held cells q).going
    left_dropped t after drops = sym (ap (λ b. goes_to (unless_dropped b (let g : Going = record { port = cast 9 (t.values egress_port).value; frame = bytes_of (deparse_of p.headers p.emits (computed p t) ++ q.rest); exit_state = t } in g))) drops) ∙ going_is t after

    pub left_out : (t u : Store) (port : ℕ) (rest frame : List ℕ) → t ≡ (egress_run p held s cells).store → is_dropped t ≡ false → port ≡ cast 9 (t.values egress_port).value → u ≡ computed p t → rest ≡ q.rest → frame ≡ bytes_of (deparse_of p.headers p.emits u ++ rest) → Some (port, frame) ≡ goes_to (parts_leave p held cells q).going
    left_out t u port rest frame after goes is computes left made =
        ap₂ (λ (n : ℕ) (l : List ℕ). Some (n, l)) is (made ∙ ap₂ (λ (u : Store) (l : List ℕ). bytes_of (deparse_of p.headers p.emits u ++ l)) computes left)
        ∙ sym (ap (λ b. goes_to (unless_dropped b (let g : Going = record { port = cast 9 (t.values egress_port).value; frame = bytes_of (deparse_of p.headers p.emits (computed p t) ++ q.rest); exit_state = t } in g))) goes)
        ∙ going_is t after
