-- What the first broken rule says of a property.
use Rattle.std.proofs.Common.{◌≡◌, ℕ, Some, None, refl, inl, inr}
use Rattle.rule_sites.proofs.FirstBroken.{In, sound, complete, all_fine}
use Rattle.indus_tree.specs.Tree.{Property}
use Rattle.indus_rules.specs.Sites.{Site, property_sites}
use Rattle.indus_rules.specs.Rules.{place_of, broken, all_rules, first, Breaks, IsWellTyped, Fine}
use Rattle.indus_rules.specs.declared.rule.Rule.{Rule}
use Rattle.indus_rules.specs.declared.rule.Rule.TheVariants.{NameTwice, NoSuchName, WidthDiffers, KindDiffers, NotWritable, WrongBlock, LoopListChanged, BadSize}

-- each rule is one of the list
pub everyone : (r : Rule) → In r all_rules
everyone NameTwice = inl refl
everyone NoSuchName = inr (inl refl)
everyone WidthDiffers = inr (inr (inl refl))
everyone KindDiffers = inr (inr (inr (inl refl)))
everyone NotWritable = inr (inr (inr (inr (inl refl))))
everyone WrongBlock = inr (inr (inr (inr (inr (inl refl)))))
everyone LoopListChanged = inr (inr (inr (inr (inr (inr (inl refl))))))
everyone BadSize = inr (inr (inr (inr (inr (inr (inr (inl refl)))))))

-- where no rule is found broken, the property is well typed
pub no_fault : (p : Property) → first (property_sites p) ≡ None → IsWellTyped p
no_fault p h = λ r n b. complete Rule Site place_of broken all_rules (property_sites p) r n (everyone r) h b

-- a rule that is found broken is broken
pub a_fault : (p : Property) (f : ℕ × Rule) → first (property_sites p) ≡ Some f → Breaks f.1 f.0 p
a_fault p f h = sound Rule Site place_of broken all_rules (property_sites p) f h

-- of a well-typed property each site is fine by itself
pub each_fine : (p : Property) → IsWellTyped p → Fine (property_sites p)
each_fine p h = all_fine Rule Site place_of broken (property_sites p) h
