use Rattle.control_maps.proofs.Names.{numbers_are_names, maps_stay, held_is_loaded, others_are_left}
use Rattle.control_maps.proofs.Filling.{contents_are_taken}
use Rattle.control_maps.proofs.maps_are_maps.Goals as goal

pub returns-clause-numbers : goal.returns-clause-numbers
returns-clause-numbers c = numbers_are_names

pub returns-clause-stay : goal.returns-clause-stay
returns-clause-stay c = maps_stay

pub returns-clause-loaded : goal.returns-clause-loaded
returns-clause-loaded c = held_is_loaded

pub returns-clause-others : goal.returns-clause-others
returns-clause-others c = others_are_left

pub returns-clause-taken : goal.returns-clause-taken
returns-clause-taken c = contents_are_taken
