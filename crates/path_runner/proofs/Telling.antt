-- Digests go behind those told so far.
use Rattle.std.proofs.Common.{◌≡◌, ◌<◌, ◌+◌, ℕ, List, [], ◌∷◌, ◌++◌, length, map, take, get_or, sym, ap, ◌∙◌, append_assoc}
use Rattle.std.proofs.lemmas.List.{map_more, map-append}
use Rattle.p4_statements.specs.Runs.{digest_of}
use Rattle.p4_statements.specs.declared.run.Digest.{Digest}
use Rattle.switch_machines.specs.Programs.{network_digest}
use Rattle.network_run.specs.Network.{Told}
use Rattle.network_run.specs.NetworkRun.{told_by}

-- the digests of the first of a list
abbrev pub told_first : (i s : ℕ) → List Digest → ℕ → List Told
told_first i s ds k = told_by i s (map network_digest (map digest_of (take k ds)))

abbrev pub told_one : (i s : ℕ) → Digest → Told
told_one i s d = record { packet = i; switch = s; digest = network_digest (digest_of d) }

told_first-more : (i s : ℕ) (ds : List Digest) (k : ℕ) (d : Digest) → k < length ds → told_first i s ds (k + 1) ≡ told_first i s ds k ++ told_one i s (get_or ds k d) ∷ []
told_first-more i s ds k d h =
    ap (λ (l : List _). told_by i s (map network_digest l)) (map_more digest_of ds k d h)
    ∙ ap (λ (l : List _). told_by i s l) (map-append network_digest (map digest_of (take k ds)) (digest_of (get_or ds k d) ∷ []))
    ∙ map-append (λ e. record { packet = i; switch = s; digest = e }) (map network_digest (map digest_of (take k ds))) (network_digest (digest_of (get_or ds k d)) ∷ [])

pub told_next :
    (i s k : ℕ) (ds : List Digest) (x : Digest) (start before now : List Told) →
    k < length ds → x ≡ get_or ds k x → before ≡ start ++ told_first i s ds k →
    now ≡ before ++ told_one i s x ∷ [] → now ≡ start ++ told_first i s ds (k + 1)
told_next i s k ds x start before now h at sofar more =
    more
    ∙ ap (λ (l : List Told). l ++ told_one i s x ∷ []) sofar
    ∙ append_assoc start (told_first i s ds k) (told_one i s x ∷ [])
    ∙ ap (λ (d : Digest). start ++ (told_first i s ds k ++ told_one i s d ∷ [])) at
    ∙ ap (λ (l : List Told). start ++ l) (sym (told_first-more i s ds k x h))
