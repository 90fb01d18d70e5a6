-- What a buffer or the deck handed over, of lists in which loads stand too.
use Rattle.std.proofs.Common.{◌≡◌, ℕ, ◌+◌, ◌%◌, ◌^◌, ◌||◌, List, [], ◌∷◌, ◌++◌, refl, sym, ◌∙◌, ap}
use Rattle.std.proofs.lemmas.List.{append-nil}
use Rattle.page_codec.specs.Packing.{first_page}
use Rattle.page_codec.specs.Reading.{page_read}
use Rattle.solo_base.specs.Prefixes.{IsPrefixOf}
use Rattle.batch_procs.specs.Parcels.{Parcel, OfFeed, OfPage, OfLine, OfLoad, is_last, is_ended, pages, loads, handed}
use Rattle.batch_procs.specs.Relays.{loads-append}
use Rattle.batch_procs.specs.Sends.{feeds, packed, unpacked_by, unpacked, job_lines, job_sends}
use Rattle.batch_procs.specs.Jobs.{Jobs, AreJobs}

module _ {L : Type 0} {J : Jobs L} (jobs : AreJobs J) where
  pub handed-append : (some more : List (Parcel L)) → handed (some ++ more) ≡ handed some ++ handed more
  handed-append [] more = refl
  handed-append (OfLoad load ∷ some) more = handed-append some more
  handed-append (OfFeed f ∷ some) more = ap (λ ps. OfFeed f ∷ ps) (handed-append some more)
  handed-append (OfPage page last ∷ some) more = ap (λ ps. OfPage page last ∷ ps) (handed-append some more)
  handed-append (OfLine line ∷ some) more = ap (λ ps. OfLine line ∷ ps) (handed-append some more)

  pub handed-again : (all : List (Parcel L)) → handed (handed all) ≡ handed all
  handed-again [] = refl
  handed-again (OfLoad load ∷ rest) = handed-again rest
  handed-again (OfFeed f ∷ rest) = ap (λ ps. OfFeed f ∷ ps) (handed-again rest)
  handed-again (OfPage page last ∷ rest) = ap (λ ps. OfPage page last ∷ ps) (handed-again rest)
  handed-again (OfLine line ∷ rest) = ap (λ ps. OfLine line ∷ ps) (handed-again rest)

  pub loads-handed : (all : List (Parcel L)) → loads (handed all) ≡ []
  loads-handed [] = refl
  loads-handed (OfLoad load ∷ rest) = loads-handed rest
  loads-handed (OfFeed f ∷ rest) = loads-handed rest
  loads-handed (OfPage page last ∷ rest) = loads-handed rest
  loads-handed (OfLine line ∷ rest) = loads-handed rest

  -- a load is no last, and no page
  pub ended-handed : (all : List (Parcel L)) → is_ended (handed all) ≡ is_ended all
  ended-handed [] = refl
  ended-handed (OfLoad load ∷ rest) = ended-handed rest
  ended-handed (OfFeed f ∷ rest) = ap (λ t. is_last {L = L} (OfFeed f) || t) (ended-handed rest)
  ended-handed (OfPage page last ∷ rest) = ap (λ t. last || t) (ended-handed rest)
  ended-handed (OfLine line ∷ rest) = ended-handed rest

  pub pages-handed : (all : List (Parcel L)) → pages (handed all) ≡ pages all
  pages-handed [] = refl
  pages-handed (OfLoad load ∷ rest) = pages-handed rest
  pages-handed (OfFeed f ∷ rest) = pages-handed rest
  pages-handed (OfPage page last ∷ rest) = ap (λ ps. page ∷ ps) (pages-handed rest)
  pages-handed (OfLine line ∷ rest) = pages-handed rest

  pub feeds-handed : (all : List (Parcel L)) → feeds (handed all) ≡ feeds all
  feeds-handed [] = refl
  feeds-handed (OfLoad load ∷ rest) = feeds-handed rest
  feeds-handed (OfFeed f ∷ rest) = ap (λ fs. f ∷ fs) (feeds-handed rest)
  feeds-handed (OfPage page last ∷ rest) = feeds-handed rest
  feeds-handed (OfLine line ∷ rest) = feeds-handed rest

  unpacked-handed : (place : ℕ) (all : List (Parcel L)) → unpacked place (handed all) ≡ unpacked place all
  unpacked-handed place [] = refl
  unpacked-handed place (OfLoad load ∷ rest) = unpacked-handed place rest
  unpacked-handed place (OfPage page last ∷ rest) =
      ap (λ fs. unpacked_by (page_read place last page) last fs) (unpacked-handed ((place + 1) % 2 ^ 16) rest)
  unpacked-handed place (OfFeed f ∷ rest) = refl
  unpacked-handed place (OfLine line ∷ rest) = refl

  pub unpacked-same : (some all : List (Parcel L)) → handed some ≡ handed all → unpacked 0 some ≡ unpacked 0 all
  unpacked-same some all e = sym (unpacked-handed 0 some) ∙ ap (unpacked 0) e ∙ unpacked-handed 0 all

  -- ---- a taken list goes on to what is handed over in all, and to all loads
  abbrev as_parcels : List L → List (Parcel L)
  as_parcels [] = []
  as_parcels (load ∷ rest) = OfLoad load ∷ as_parcels rest

  none-handed : (found : List L) → handed (as_parcels found) ≡ []
  none-handed [] = refl
  none-handed (load ∷ rest) = none-handed rest

  loads-back : (found : List L) → loads (as_parcels found) ≡ found
  loads-back [] = refl
  loads-back (load ∷ rest) = ap (λ ls. load ∷ ls) (loads-back rest)

  -- what the job process puts in all for what is handed to it, where it takes these loads
  abbrev pub job_puts : List L → List (Parcel L) → List (Parcel L)
  job_puts found all = packed first_page (job_lines J (unpacked 0 all) found)

  pub job-goes_on : (found : List L) (tk all : List (Parcel L)) → IsPrefixOf (handed tk) all → IsPrefixOf (loads tk) found
      → (more : List (Parcel L)) × (job_sends J (tk ++ more) ≡ job_puts found all)
  job-goes_on found tk all (rest, whole) (later, all_loads) =
      let more = handed rest ++ as_parcels later in
      let behind : handed more ≡ handed rest ++ [] =
      handed-append (handed rest) (as_parcels later) ∙ ap (λ ps. ps ++ handed (as_parcels later)) (handed-again rest)
      ∙ ap (λ ps. handed rest ++ ps) (none-handed later) in
      let some : handed (tk ++ more) ≡ handed tk ++ handed rest = handed-append tk more ∙ ap (λ ps. handed tk ++ ps) (behind ∙ append-nil (handed rest)) in
      let same : handed (tk ++ more) ≡ handed all =
      some ∙ ap (λ ps. ps ++ handed rest) (sym (handed-again tk)) ∙ sym (handed-append (handed tk) rest) ∙ ap handed whole in
      let new : loads more ≡ later = loads-append (handed rest) (as_parcels later) ∙ ap (λ ls. ls ++ loads (as_parcels later)) (loads-handed rest)
      ∙ loads-back later in
      let found_all : loads (tk ++ more) ≡ found = loads-append tk more ∙ ap (λ ls. loads tk ++ ls) new ∙ all_loads in (
        more,
        ap (λ fs. packed first_page (job_lines J fs (loads (tk ++ more)))) (unpacked-same (tk ++ more) all same)
            ∙ ap (λ ls. packed first_page (job_lines J (unpacked 0 all) ls)) found_all,
      )
