-- The index pages of the entries are noted one after the other.
use Rattle.std.proofs.Common.{◌≡◌, ◌≢◌, ℕ, ◌+◌, ◌<◌, List, length, get_or, set, ap, sym, subst, ◌∙◌, inl, inr, arith, get_or-set_same, get_or-set_other, length-set}
use Rattle.std.proofs.lemmas.Bool.{cases_eq}
use Rattle.disk_layout.specs.declared.entry.Entry.{Entry}
use Rattle.disk_layout.specs.Disk.{Disk}
use Rattle.disk_layout.specs.Format.{IsAddress}
use Rattle.disk_layout.specs.Layout.{blank_entry}
use Rattle.disk_layout.specs.Judging.{IsBefore, IsKeptEntry, EntriesRead, Roles}

abbrev at : List Entry → ℕ → Entry
at entries p = get_or entries p blank_entry

pub kept_free : (e : Entry) → IsKeptEntry e → e.kind ≢ 0 → IsAddress e.address
kept_free e (inl empty) used = absurd (used empty)
kept_free e (inr full) used = full.address

-- the entry in use that names a page
pub record Names (entries : List Entry) (bound n : ℕ) : Type 0 where
  pub place : ℕ
  pub below : place < bound
  pub used : (at entries place).kind ≢ 0
  pub is : (at entries place).address ≡ n

-- the index pages of the entries at the places below a bound are noted, and nothing else
pub record IndexesNoted (entries : List Entry) (bound : ℕ) (roles : List ℕ) : Type 0 where
  pub size : length roles ≡ 4288
  pub noted : (p : ℕ) → p < bound → (at entries p).kind ≢ 0 → get_or roles (at entries p).address 0 ≡ 255
  pub only : (n : ℕ) → get_or roles n 0 ≢ 0 → (get_or roles n 0 ≡ 255) × Names entries bound n

pub none_noted : (entries : List Entry) (roles : List ℕ) → length roles ≡ 4288 → ((n : ℕ) → get_or roles n 0 ≡ 0) → IndexesNoted entries 0 roles
none_noted entries roles size blank = record {
  size = size;
  noted = λ p below used. absurd (omega (arith, below));
  only = λ n some. absurd (some (blank n));
}

names_on : (entries : List Entry) (bound n : ℕ) → Names entries bound n → Names entries (bound + 1) n
names_on entries bound n x = record { place = x.place; below = omega (arith, x.below); used = x.used; is = x.is }

pub passed_entry : (entries : List Entry) (p : ℕ) (roles : List ℕ) → (at entries p).kind ≡ 0 → IndexesNoted entries p roles → IndexesNoted entries (p + 1) roles
passed_entry entries p roles empty i = record {
  size = i.size;
  noted = λ k below used. elim (cases_eq k p) [
    | inl here ↦ absurd (used (ap (λ x. (at entries x).kind) here ∙ empty))
    | inr earlier ↦ i.noted k (omega (arith, below, earlier)) used
  ];
  only = λ n some. let x = i.only n some in (x.0, names_on entries p n x.1);
}

pub noted_entry : (entries : List Entry) (p : ℕ) (roles : List ℕ) → (at entries p).kind ≢ 0 → IsAddress (at entries p).address → IndexesNoted entries p roles
    → IndexesNoted entries (p + 1) (set roles (at entries p).address 255)
noted_entry entries p roles used free i =
    let i_size = i.size in
    let here : get_or (set roles (at entries p).address 255) (at entries p).address 0
    ≡ 255 = get_or-set_same roles (at entries p).address 255 0 (omega (arith, free.within, i_size)) in
    record {
      size = length-set roles (at entries p).address 255 ∙ i.size;
      noted = λ k below k_used. elim (cases_eq (at entries k).address (at entries p).address) [
        | inl same ↦ ap (λ n. get_or (set roles (at entries p).address 255) n 0) same ∙ here
        | inr apart ↦ elim (cases_eq k p) [
          | inl last ↦ absurd (apart (ap (λ x. (at entries x).address) last))
          | inr earlier ↦ get_or-set_other roles (at entries p).address (at entries k).address 255 0 apart ∙ i.noted k (omega (arith, below, earlier)) k_used
        ]
      ];
      only = λ n some. elim (cases_eq n (at entries p).address) [
        | inl same ↦ (
          ap (λ m. get_or (set roles (at entries p).address 255) m 0) same ∙ here,
          record {
            place =
                p;
            below = omega arith;
            used = used;
            is = sym same;
          },
        )
        | inr apart ↦
            let other = get_or-set_other roles (at entries p).address n 255 0 apart in
            let x = i.only n (λ e. some (other ∙ e)) in
            (other ∙ x.0, names_on entries p n x.1)
      ];
    }

-- where all are noted the roles begin
pub roles_begin : (entries : List Entry) (roles : List ℕ) → ((p : ℕ) → p < 240 → IsKeptEntry (at entries p)) → IndexesNoted entries 240 roles → (d : Disk)
    → EntriesRead d 240 entries → Roles d 0 0 roles
roles_begin entries roles kept i d read = record {
  size = i.size;
  address = λ n some. let x = (i.only n some).1 in subst IsAddress x.is (free x.place x.below x.used);
  index = λ n y.
      let is = read y.place y.inside in
      ap (λ m. get_or roles m 0) (sym (ap (λ e. e.address) is ∙ y.named)) ∙ i.noted y.place y.inside (λ e. y.used (sym (ap (λ x. x.kind) is) ∙ e));
  is_index = λ n e. let x = (i.only n (λ zero. omega (arith, e, zero))).1 in record {
    free = subst IsAddress x.is (free x.place x.below x.used);
    place = x.place;
    inside = x.below;
    used = subst (λ y. y.kind ≢ 0) (read x.place x.below) x.used;
    named = sym (ap (λ y. y.address) (read x.place x.below)) ∙ x.is;
  };
  part = λ n some other. absurd (other (i.only n some).0);
  met = λ by place n before u. absurd (none_before by place before);
}
  where
    free : (p : ℕ) → p < 240 → (at entries p).kind ≢ 0 → IsAddress (at entries p).address
    free p below used = kept_free (at entries p) (kept p below) used

    none_before : (by place : ℕ) → IsBefore by place 0 0 → ⊥
    none_before by place (inl less) = omega (arith, less)
    none_before by place (inr here) = omega (arith, here.1)
