-- The replies of the batch fit the calls.
use Rattle.std.proofs.Common.{◌≡◌, ℕ, suc, ◌<◌, List, [], ◌∷◌, ◌++◌, length, sym, ◌∙◌, ap, subst, append_assoc, arith}
use Rattle.std.proofs.lemmas.List.{length-append}
use Rattle.std.specs.Prelude.{All}
use Rattle.solo_base.specs.declared.system_call.SysCall.{SysCall}
use Rattle.solo_base.specs.declared.system_call.SysCall.TheVariants as calls
use Rattle.solo_base.specs.declared.system_call.SysReply.{SysReply}
use Rattle.solo_base.specs.Fits.{Fits}
use Rattle.solo_base.specs.RunOutcome.{Ends, Waits}
use Rattle.solo_base.specs.Text.{text}
use Rattle.pascal_mean.specs.Meaning.{meaning}
use Rattle.pascal_mean.specs.MoreReplies.{GoesOn, AreAnswered}
use Rattle.pascal_mean.specs.Batch.{next_character, but_the_first, input_after, batch_reply, batch_replies, BatchFits, BatchRepliesFit}
use Rattle.pascal_mean.proofs.Answering.{more_replies, each_call}

next_is_a_byte : (input : List ℕ) → All (λ code. code < 256) input → next_character input < 256
next_is_a_byte [] all = omega arith
next_is_a_byte (code ∷ rest) all = all 0 0 (omega arith)

pub batch_fits : BatchFits
batch_fits input calls.Read all = next_is_a_byte input all
batch_fits input (calls.Write byte) all = tt
batch_fits input (calls.WriteInt number) all = tt
batch_fits input calls.Accept all = tt
batch_fits input (calls.Display byte) all = tt
batch_fits input (calls.Open f name) all = tt
batch_fits input (calls.Close f) all = tt
batch_fits input (calls.Get f p) all = tt
batch_fits input (calls.Put f p page) all = tt
batch_fits input (calls.Length f) all = tt
batch_fits input (calls.Lookup name) all = tt
batch_fits input calls.ReadArg all = tt
batch_fits input (calls.WriteArg tag number name) all = tt
batch_fits input (calls.Run name left) all = tt

-- ---- All replies of a run

rest_is_bytes : (input : List ℕ) → All (λ code. code < 256) input → All (λ code. code < 256) (but_the_first input)
rest_is_bytes [] all = all
rest_is_bytes (code ∷ rest) all = λ k d few. all (suc k) d (omega (arith, few))

after_is_bytes : (input : List ℕ) (call : SysCall) → All (λ code. code < 256) input → All (λ code. code < 256) (input_after input call)
after_is_bytes input calls.Read all = rest_is_bytes input all
after_is_bytes input other all = all

-- the reply at the place of a call fits it
fits_there : (input : List ℕ) (made rest : List SysCall) (call : SysCall) (before after : List SysReply) (reply : SysReply) → All (λ code. code < 256) input
    → length made ≡ length before → batch_replies input (made ++ call ∷ rest) ≡ before ++ reply ∷ after → Fits call reply
fits_there input [] rest call [] after reply all same is =
    let first : batch_reply input call ≡ reply = cc in
    subst (Fits call) first (batch_fits input call all)
fits_there input (c ∷ made) rest call (b ∷ before) after reply all same is =
    let others : batch_replies (input_after input c) (made ++ call ∷ rest) ≡ before ++ reply ∷ after = cc in
    fits_there (input_after input c) made rest call before after reply (after_is_bytes input c all) (omega (arith, same)) others
fits_there input [] rest call (b ∷ before) after reply all same is = absurd (omega (arith, same))
fits_there input (c ∷ made) rest call [] after reply all same is = absurd (omega (arith, same))

pub batch_replies_fit : BatchRepliesFit
batch_replies_fit p limit cards r line ticks all bytes means before after reply made call split waits =
    let goes : GoesOn (meaning p limit before) (meaning p limit (before ++ reply ∷ after)) = more_replies p limit before (reply ∷ after) in
    let further : GoesOn (Waits (made ++ call ∷ [])) (Ends r line ticks all) =
    subst (λ o. GoesOn o (Ends r line ticks all)) waits (subst (GoesOn (meaning p limit before)) (ap (meaning p limit) (sym split) ∙ means) goes) in
    let count : AreAnswered (Waits (made ++ call ∷ [])) before = subst (λ o. AreAnswered o before) waits (each_call p limit before) in
    let whole : all ≡ made ++ call ∷ further.0 = further.1 ∙ append_assoc made (call ∷ []) further.0 in
    fits_there (text cards) made further.0 call before after reply bytes (omega (arith, count, length-append made (call ∷ [])))
    (ap (batch_replies (text cards)) (sym whole) ∙ split)
