-- What a fault of linking says. Read `Refusals` of `link_faults` before it.
use Rattle.std.specs.Prelude.{◌≡◌, Option, Some}
use Rattle.link_faults.specs.Refusals.{Refusal, no_such_field, field_width, name_taken, room_short, too_large}
use Rattle.link_checks.specs.declared.fault.LinkFault.{LinkFault}
use Rattle.link_checks.specs.declared.fault.LinkFault.TheVariants.{NoSuchField, FieldWidth, NameTaken, RoomShort, TooLarge, NoMemory}

-- it is the refusal that there is. Want of memory says nothing
abbrev pub IsRefused : Option Refusal → LinkFault → Type 0
IsRefused r (NoSuchField x) = r ≡ Some (no_such_field x)
IsRefused r (FieldWidth x) = r ≡ Some (field_width x)
IsRefused r (NameTaken x) = r ≡ Some (name_taken x)
IsRefused r (RoomShort need room) = r ≡ Some (room_short need room)
IsRefused r (TooLarge w) = r ≡ Some (too_large w)
IsRefused r NoMemory = Unit {0}
