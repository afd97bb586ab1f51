-- What is promised of manifests, and of what is compared with them.
use Rattle.std.specs.Prelude.{ℕ, ◌≡◌, ◌≢◌, true, List, ◌∷◌, Option, None, Some, Ok, Err, slice_get}
use Rattle.norm_base.specs.declared.kinds.Kind.TheVariants as kind
use Rattle.norm_order.specs.declared.up.Up.{Up}
use Rattle.norm_order.specs.declared.up.Up.TheVariants as up
use Rattle.norm_mirror.specs.Checking.{checked, is_done}
use Rattle.norm_mirror.specs.Folder.{IsFolder, IsOtherThan}
use Rattle.norm_mirror.specs.Manifest.{IsManifest, Spells, IsFirstOther, manifest_text}
use Rattle.norm_mirror.specs.Reading.{manifest_of}
use Rattle.norm_mirror.specs.declared.entry.Entry.{Entry}

-- A manifest that is written reads back as itself; octets that are read spell what was read; and if nothing is read, the line that is named is the
-- first that is none of a manifest. So octets spell at most one manifest.
pub record ManifestLaws : Type 0 where
  pub back : (entries : List Entry) → IsManifest entries → manifest_of (manifest_text entries) ≡ Ok entries
  pub spelt : (octets : List ℕ) (entries : List Entry) → manifest_of octets ≡ Ok entries → Spells entries octets
  pub first : (octets : List ℕ) (n : ℕ) → manifest_of octets ≡ Err n → IsFirstOther n octets

-- all files of these entries were taken, and nothing was refused
pub record Passes (entries : List Entry) (ups : List Up) : Type 0 where
  pub clean : (checked ups).refused ≡ None
  pub read : (checked ups).entries ≡ Some entries
  pub done : is_done (checked ups) ≡ true

-- Hand-ups pass exactly if they are a manifest and then exactly its files.
pub record CheckLaws : Type 0 where
  pub folder : (ups : List Up) (entries : List Entry) → Passes entries ups → IsFolder entries ups
  pub passes : (ups : List Up) (entries : List Entry) → IsFolder entries ups → Passes entries ups

-- If a file that was handed up after the manifest has another length or digest than the entry of its name, something was refused.
pub record DiffersLaw : Type 0 where
  pub refused : (entries : List Entry) (index : ℕ) (info : Option (List ℕ)) (files : List Up) (i n : ℕ) (e : Entry) (hand_up : Up) → IsManifest entries
      → slice_get entries i ≡ Some e → slice_get files n ≡ Some hand_up → IsOtherThan e hand_up
      → (checked (up.Object index kind.Data info (manifest_text entries) ∷ files)).refused ≢ None
