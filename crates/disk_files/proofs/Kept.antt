-- What a file area keeps through calls on its area.
use Rattle.std.proofs.Common.{◌≡◌, ◌≢◌, inl, inr, ℕ, List, Option, Some, None, Result, Ok, Err, Bool, true, length, refl, ap, sym, subst, ◌∙◌, length-set, arith}
use Rattle.std.specs.Prelude.{slice_set}
use Rattle.solo_devices.specs.Area.{Writes, HasSize}
use Rattle.solo_devices.specs.declared.area.Moved.{Moved}
use Rattle.disk_pages.specs.Pages.{Pages}
use Rattle.disk_layout.specs.declared.entry.Entry.{Entry}
use Rattle.disk_layout.specs.Format.{IsAddress}
use Rattle.disk_files.specs.declared.fault.FileFault.{FileFault}
use Rattle.disk_files.specs.declared.fault.FileFault.TheVariants.{DiskFault}
use Rattle.disk_layout.specs.Judging.{IsKeptEntry}
use Rattle.disk_files.specs.Answers.{IsFileArea, Stays, FaultsOnly}

pub same_size : (before now : Option (List (List ℕ))) (size_before size : ℕ) → now ≡ before → size ≡ size_before → HasSize before size_before → HasSize now size
same_size before now size_before size left same has = subst (λ s. HasSize now s) (sym same) (subst (λ p. HasSize p size_before) (sym left) has)

-- a write keeps how many pages the area has
size_kept : (before now : Option (List (List ℕ))) (n size : ℕ) (answer : Moved) (page : List ℕ) → Writes before now n answer page
    → HasSize before size → HasSize now size
size_kept None now n size answer page w h told is = let none = w.untold refl in cc
size_kept (Some all) now n size Moved.Done page w h told is =
    let same : told ≡ slice_set all n page = (let wrote = w.told all refl in cc) in
    ap length same ∙ length-set all n page ∙ h all refl
size_kept (Some all) now n size Moved.Failed page w h told is =
    let wrote = w.told all refl in
    let same : told ≡ wrote.0 = (let is_after = wrote.1 in cc) in
    ap length same ∙ wrote.2.as_many ∙ h all refl

-- so the area goes on telling as many pages as its size
pub stays_written : (before now : Option (List (List ℕ))) (n size now_size : ℕ) (answer : Moved) (page : List ℕ)
    → Writes before now n answer page → now_size ≡ size → Stays before size now now_size
stays_written before now n size now_size answer page w same = record {
  has_size = λ h. same_size now now size now_size refl same (size_kept before now n size answer page w h);
  untold = w.untold;
}

-- a call that leaves the pages leaves the file area
pub left_alone : (before now : Option (List (List ℕ))) (size_before size : ℕ) (kept : List Entry) (taken : Pages) (sound_before sound : Bool)
    → IsFileArea before size_before kept taken sound_before → now ≡ before → size ≡ size_before → sound_before ≡ true → IsFileArea now size kept taken sound
left_alone before now size_before size kept taken sound_before sound area left same was_sound = record {
  whole = same ∙ area.whole;
  has_size = same_size before now size_before size left same area.has_size;
  places = area.places;
  entries = area.entries;
  laid = λ _ pages told. area.laid was_sound pages (sym left ∙ told);
}

-- the address of an entry in use is that of a page
pub kept_address : (e : Entry) → IsKeptEntry e → e.kind ≢ 0 → IsAddress e.address
kept_address e (inl empty) used = absurd (used empty)
kept_address e (inr full) used = full.address

-- what stays and what is counted is said of calls one after the other
pub stays_then : (a b c : Option (List (List ℕ))) (k l m : ℕ) → Stays a k b l → Stays b l c m → Stays a k c m
stays_then a b c k l m first second = record {
  has_size = λ h. second.has_size (first.has_size h);
  untold = λ none. second.untold (first.untold none);
}

pub faults_then : {T U : Type 0} (a b c : ℕ) (first : Result T FileFault) (last : Result U FileFault) → FaultsOnly a b first → FaultsOnly b c last
    → FaultsOnly a c last
faults_then a b c first last f l = record {
  later = omega (arith, f.later, l.later);
  stays = λ h. l.stays (f.stays h);
  cause = λ e. let rose = l.cause e in omega (arith, f.later, rose);
}

pub no_faults : {T : Type 0} (a : ℕ) (x : T) → FaultsOnly a a (Ok x)
no_faults a x = record { later = omega arith; stays = λ h. h; cause = λ e. absurd (ok_is_err x e) }
  where
    ok_is_err : {T : Type 0} (y : T) → ◌≡◌ {A = Result T FileFault} (Ok y) (Err DiskFault) → ⊥
    ok_is_err y e = cc
