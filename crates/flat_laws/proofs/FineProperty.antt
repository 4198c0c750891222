-- The property of flat code is well typed.
use Rattle.std.proofs.Common.{◌≡◌, [], Bool, false, refl}
use Rattle.indus_tree.specs.Tree.{Property}
use Rattle.indus_scopes.specs.declared.scope.Block.{Block}
use Rattle.indus_scopes.specs.declared.scope.Block.TheVariants as block
use Rattle.indus_rules.specs.Sites.{at_edition, property_sites, sight}
use Rattle.indus_rules.specs.Rules.{Fine, broken, bad_edition}
use Rattle.indus_rules.specs.declared.rule.Rule.{Rule}
use Rattle.indus_rules.specs.declared.rule.Rule.TheVariants.{NameTwice, NoSuchName, WidthDiffers, KindDiffers, NotWritable, WrongBlock, LoopListChanged, BadSize}
use Rattle.indus_types.proofs.Checked.{each_fine}
use Rattle.flat_laws.specs.Meaning.{IsPlainProperty}
use Rattle.flat_laws.specs.Typing.{flat_property, FlatCodeIsWellTyped}
use Rattle.flat_laws.proofs.Typed.{ready}
use Rattle.flat_laws.proofs.FineSites.{fine_typed}
use Rattle.flat_laws.proofs.FineDecls.{numbered_fine}
use Rattle.flat_laws.proofs.FineBlocks.{fine_block, no_placed}

edition_site : (q : Property) → bad_edition q.edition ≡ false → (r : Rule) → broken r (at_edition q) ≡ false
edition_site q e NameTwice = refl
edition_site q e NoSuchName = refl
edition_site q e WidthDiffers = refl
edition_site q e KindDiffers = refl
edition_site q e NotWritable = refl
edition_site q e WrongBlock = refl
edition_site q e LoopListChanged = refl
edition_site q e BadSize = e

pub flat_code_is_well_typed : FlatCodeIsWellTyped
flat_code_is_well_typed p q =
    let f = each_fine p q.typed in
    let r = ready p q.typed q.plain q.few in
    fine_typed (flat_property p) (
      edition_site (flat_property p) (f.0 BadSize),
      (
        numbered_fine p.decls q.plain q.few f.1.0,
        (
          fine_block (sight p block.Init) r p.init [] [] (no_placed (sight p block.Init) r) f.1.1.0,
          (
            fine_block (sight p block.Tele) r p.tele [] [] (no_placed (sight p block.Tele) r) f.1.1.1.0,
            fine_block (sight p block.Check) r p.check [] [] (no_placed (sight p block.Check) r) f.1.1.1.1,
          ),
        ),
      ),
    )
