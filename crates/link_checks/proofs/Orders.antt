-- The first refusal is the refusal.
use Rattle.std.proofs.Common.{◌≡◌, Option, Some, None, ap, ◌∙◌}
use Rattle.link_faults.specs.Refusals.{Refusal, or_else}
use Rattle.link_checks.specs.declared.fault.LinkFault.{LinkFault}
use Rattle.link_checks.specs.declared.fault.LinkFault.TheVariants.{NoSuchField, FieldWidth, NameTaken, RoomShort, TooLarge, NoMemory}
use Rattle.link_checks.specs.Faults.{IsRefused}

before : (a b : Option Refusal) (r : Refusal) → a ≡ Some r → or_else a b ≡ Some r
before a b r is = ap (λ o. or_else o b) is

behind : (a b : Option Refusal) (r : Refusal) → a ≡ None → b ≡ Some r → or_else a b ≡ Some r
behind a b r none is = ap (λ o. or_else o b) none ∙ is

pub refused_first : (a b : Option Refusal) (f : LinkFault) → IsRefused a f → IsRefused (or_else a b) f
refused_first a b (NoSuchField x) is = before a b _ is
refused_first a b (FieldWidth x) is = before a b _ is
refused_first a b (NameTaken x) is = before a b _ is
refused_first a b (RoomShort need room) is = before a b _ is
refused_first a b (TooLarge w) is = before a b _ is
refused_first a b NoMemory is = is

pub refused_then : (a b : Option Refusal) (f : LinkFault) → a ≡ None → IsRefused b f → IsRefused (or_else a b) f
refused_then a b (NoSuchField x) none is = behind a b _ none is
refused_then a b (FieldWidth x) none is = behind a b _ none is
refused_then a b (NameTaken x) none is = behind a b _ none is
refused_then a b (RoomShort need room) none is = behind a b _ none is
refused_then a b (TooLarge w) none is = behind a b _ none is
refused_then a b NoMemory none is = is

pub none_then : (a b : Option Refusal) → a ≡ None → b ≡ None → or_else a b ≡ None
none_then a b none is = ap (λ o. or_else o b) none ∙ is
