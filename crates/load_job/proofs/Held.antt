-- What is held of files.
use Rattle.std.proofs.Common.{◌≡◌, ◌≢◌, ℕ, zero, suc, ◌<◌, List, length, drop, get_or, ap, arith, [], ◌∷◌, map, Bool, true, false, Some, None, refl, sym, ◌∙◌, rules}
use Rattle.std.proofs.Math.Path.{fun_ext}
use Rattle.std.specs.Str.{bytes_eq}
use Rattle.outside.specs.Files.{Files, with_file}
use Rattle.std.specs.declared.string.String.{String}
use Rattle.std.specs.declared.vec.Vec.{Vec}
use Rattle.std.specs.declared.alloc.Global.{Global}
use Rattle.outside.specs.Held.{HoldsAlso}
use Rattle.job_course.specs.Output.{files_of, file_of}
use Rattle.load_job.specs.Within.{held_by}

abbrev pub Named : Type 0
Named = List (List ℕ × List ℕ)

-- a name is equal to itself
pub same_name : (n : List ℕ) → bytes_eq n n ≡ true
same_name n = search rules

-- with one file more
pub held_also : (old new : Files) (n b : List ℕ) → HoldsAlso old new n b → new ≡ with_file old n b
held_also old new n b h = fun_ext (λ m. at m (bytes_eq n m) refl)
  where
    at : (m : List ℕ) (e : Bool) → bytes_eq n m ≡ e → new m ≡ with_file old n b m
    at m true is = rw is (search rules)
    at m false is = rw is (h.others m (search rules))

-- the first file is held
pub first_held : (n b : List ℕ) (xs : Named) → held_by ((n, b) ∷ xs) n ≡ Some b
first_held n b xs = rw (same_name n) refl

-- it is held, whatever it is
pub record IsHeld (xs : Named) (n : List ℕ) : Type 0 where
  pub held : held_by xs n ≡ None → ⊥

pub here : (n b : List ℕ) (xs : Named) → IsHeld ((n, b) ∷ xs) n
here n b xs = record { held = λ none. let e = sym (first_held n b xs) ∙ none in absurd cc }

pub there : (x : List ℕ × List ℕ) (xs : Named) (n : List ℕ) → IsHeld xs n → IsHeld (x ∷ xs) n
there x xs n is = record { held = at (bytes_eq x.0 n) refl }
  where
    at : (e : Bool) → bytes_eq x.0 n ≡ e → held_by (x ∷ xs) n ≡ None → ⊥
    at true same none = let e : Some x.1 ≡ None = sym (rw same refl) ∙ none in absurd cc
    at false other none = is.held (sym (rw other refl) ∙ none)

-- all of these are held
abbrev pub AreHeld : Named → List (List ℕ) → Type 0
AreHeld xs [] = Unit {0}
AreHeld xs (n ∷ ns) = IsHeld xs n × AreHeld xs ns

pub all_there : (x : List ℕ × List ℕ) (xs : Named) (ns : List (List ℕ)) → AreHeld xs ns → AreHeld (x ∷ xs) ns
all_there x xs [] held = tt
all_there x xs (n ∷ ns) (first, rest) = (there x xs n first, all_there x xs ns rest)

-- a file for each of these numbers
pub numbered_held : (name bytes : ℕ → List ℕ) (ks : List ℕ) → AreHeld (map (λ k. (name k, bytes k)) ks) (map name ks)
numbered_held name bytes [] = tt
numbered_held name bytes (k ∷ ks) = (
  here (name k) (bytes k) (map (λ j. (name j, bytes j)) ks),
  all_there (name k, bytes k) (map (λ j. (name j, bytes j)) ks) (map name ks) (numbered_held name bytes ks),
)

-- of files of the program, those from one on hold it and those behind it
abbrev pub Made : Type 0
Made = List (String Global × Vec ℕ Global)

from_one : (files : Made) (n : ℕ) (x : String Global × Vec ℕ Global) → n < length files → x ≡ get_or files n x
    → held_by (files_of (drop n files)) ≡ with_file (held_by (files_of (drop (suc n) files))) (file_of x).0 (file_of x).1
from_one [] n x lt is = absurd (omega (arith, lt))
from_one (y ∷ ys) zero x lt is = ap (λ (z : String Global × Vec ℕ Global). with_file (held_by (files_of ys)) (file_of z).0 (file_of z).1) (sym is)
from_one (y ∷ ys) (suc n) x lt is = from_one ys n x (omega (arith, lt)) is

pub from_one_on : (files : Made) (n m : ℕ) (x : String Global × Vec ℕ Global) → m ≡ suc n → n < length files → x ≡ get_or files n x
    → held_by (files_of (drop n files)) ≡ with_file (held_by (files_of (drop m files))) (file_of x).0 (file_of x).1
from_one_on files n m x e lt is =
    from_one files n x lt is ∙ ap (λ (k : ℕ). with_file (held_by (files_of (drop k files))) (file_of x).0 (file_of x).1) (sym e)

-- with one file more, which is one of the program's
pub holds_one : (old new : Files) (n m b d : List ℕ) → n ≡ m → b ≡ d → HoldsAlso old new n b → new ≡ with_file old m d
holds_one old new n m b d e f h = held_also old new n b h ∙ ap (λ (k : List ℕ). with_file old k b) e ∙ ap (λ (k : List ℕ). with_file old m k) f
