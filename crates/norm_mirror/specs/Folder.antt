-- A folder among a receiver's hand-ups.
use Rattle.std.specs.Prelude.{ℕ, ◌≡◌, ◌≢◌, ◌⊎◌, List, [], ◌∷◌, length, Option, Some}
use Rattle.sha2.specs.Sha256.{sha256}
use Rattle.norm_base.specs.declared.kinds.Kind.TheVariants as kind
use Rattle.norm_order.specs.declared.up.Up.{Up}
use Rattle.norm_order.specs.declared.up.Up.TheVariants as up
use Rattle.norm_mirror.specs.Manifest.{IsManifest, manifest_text}
use Rattle.norm_mirror.specs.declared.entry.Entry.{Entry}

-- the file of this entry
pub record IsFileOf (e : Entry) (hand_up : Up) : Type 0 where
  pub index : ℕ
  pub octets : List ℕ
  pub is : hand_up ≡ up.Object index kind.File (Some e.name) octets
  pub len : length octets ≡ e.len
  pub digest : sha256 octets ≡ e.digest

-- a file with the name of this entry, but with another length or digest
pub record IsOtherThan (e : Entry) (hand_up : Up) : Type 0 where
  pub index : ℕ
  pub octets : List ℕ
  pub is : hand_up ≡ up.Object index kind.File (Some e.name) octets
  pub other : (length octets ≢ e.len) ⊎ (sha256 octets ≢ e.digest)

-- one file for each entry, in their order
abbrev pub AreFilesOf : List Entry → List Up → Type 0
AreFilesOf [] [] = Unit {0}
AreFilesOf (e ∷ entries) (hand_up ∷ ups) = IsFileOf e hand_up × AreFilesOf entries ups
AreFilesOf _ _ = ⊥

-- A manifest, and then exactly its files.
pub record IsFolder (entries : List Entry) (ups : List Up) : Type 0 where
  pub index : ℕ
  pub info : Option (List ℕ)
  pub files : List Up
  pub are : ups ≡ up.Object index kind.Data info (manifest_text entries) ∷ files
  pub manifest : IsManifest entries
  pub each : AreFilesOf entries files
