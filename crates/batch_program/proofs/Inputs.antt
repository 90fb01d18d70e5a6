-- The replies of the input so far, with a call more and with a card more.
use Rattle.std.proofs.Common.{◌≡◌, ℕ, Bool, true, false, Some, None, List, [], ◌∷◌, ◌++◌, refl, sym, ◌∙◌, ap, subst, append_assoc}
use Rattle.solo_base.specs.declared.system_call.SysCall.{SysCall}
use Rattle.solo_base.specs.declared.system_call.SysCall.TheVariants as calls
use Rattle.solo_base.specs.declared.system_call.SysReply.{SysReply}
use Rattle.solo_base.specs.Text.{line_text, text}
use Rattle.pascal_mean.specs.Batch.{batch_reply, batch_replies, input_after}
use Rattle.batch_program.specs.Input.{reply_so_far, AreAnswered, input_behind}

-- ---- One call

-- where there is a reply, it is the batch's
pub reply_is : (input : List ℕ) (closed : Bool) (call : SysCall) (reply : SysReply) → reply_so_far input closed call ≡ Some reply
    → reply ≡ batch_reply input call
reply_is [] false calls.Read reply is = absurd cc
reply_is [] true calls.Read reply is = cc
reply_is (code ∷ rest) closed calls.Read reply is = cc
reply_is input closed other reply is = cc

-- only a READ behind the last character has none
pub record HasNoReply (input : List ℕ) (closed : Bool) (call : SysCall) : Type 0 where
  pub nothing_left : input ≡ []
  pub is_open : closed ≡ false
  pub is_read : call ≡ calls.Read

pub no_reply : (input : List ℕ) (closed : Bool) (call : SysCall) → reply_so_far input closed call ≡ None → HasNoReply input closed call
no_reply [] false calls.Read is = record { nothing_left = refl; is_open = refl; is_read = refl }
no_reply [] true calls.Read is = absurd cc
no_reply (code ∷ rest) closed calls.Read is = absurd cc
no_reply input closed other is = absurd cc

-- once no further card comes, each call has one
pub reply_closed : (input : List ℕ) (call : SysCall) → reply_so_far input true call ≡ Some (batch_reply input call)
reply_closed [] calls.Read = refl
reply_closed (code ∷ rest) calls.Read = refl
reply_closed input other = refl

-- more input changes no reply
pub record KeepsReply (input more : List ℕ) (closed : Bool) (call : SysCall) : Type 0 where
  pub answered : reply_so_far (input ++ more) closed call ≡ Some (batch_reply (input ++ more) call)
  pub reply : batch_reply (input ++ more) call ≡ batch_reply input call
  pub after : input_after (input ++ more) call ≡ input_after input call ++ more

pub reply_kept : (input more : List ℕ) (closed : Bool) (call : SysCall) → reply_so_far input false call ≡ Some (batch_reply input call)
    → KeepsReply input more closed call
reply_kept [] more closed calls.Read is = absurd cc
reply_kept (code ∷ rest) more closed calls.Read is = record { answered = refl; reply = refl; after = refl }
reply_kept input more closed other is = record { answered = refl; reply = refl; after = refl }

-- ---- Some calls, and one more

pub behind_more : (input : List ℕ) (made : List SysCall) (call : SysCall) → input_behind input (made ++ call ∷ []) ≡ input_after (input_behind input made) call
behind_more input [] call = refl
behind_more input (first ∷ made) call = behind_more (input_after input first) made call

pub replies_more : (input : List ℕ) (made : List SysCall) (call : SysCall)
    → batch_replies input (made ++ call ∷ []) ≡ batch_replies input made ++ batch_reply (input_behind input made) call ∷ []
replies_more input [] call = refl
replies_more input (first ∷ made) call = ap (λ (l : List SysReply). batch_reply input first ∷ l) (replies_more (input_after input first) made call)

pub answered_more : (input : List ℕ) (closed : Bool) (made : List SysCall) (call : SysCall) → AreAnswered input closed made
    → reply_so_far (input_behind input made) closed call ≡ Some (batch_reply (input_behind input made) call) → AreAnswered input closed (made ++ call ∷ [])
answered_more input closed [] call all is = (is, tt)
answered_more input closed (first ∷ made) call all is = (all.0, answered_more (input_after input first) closed made call all.1 is)

pub all_answered : (input : List ℕ) (made : List SysCall) → AreAnswered input true made
all_answered input [] = tt
all_answered input (call ∷ made) = (reply_closed input call, all_answered (input_after input call) made)

-- ---- Some calls, with more input

pub record KeepsReplies (input more : List ℕ) (closed : Bool) (made : List SysCall) : Type 0 where
  pub answered : AreAnswered (input ++ more) closed made
  pub replies : batch_replies (input ++ more) made ≡ batch_replies input made
  pub behind : input_behind (input ++ more) made ≡ input_behind input made ++ more

pub replies_kept : (input more : List ℕ) (closed : Bool) (made : List SysCall) → AreAnswered input false made → KeepsReplies input more closed made
replies_kept input more closed [] all = record { answered = tt; replies = refl; behind = refl }
replies_kept input more closed (call ∷ made) all =
    let first = reply_kept input more closed call all.0 in
    let others = replies_kept (input_after input call) more closed made all.1 in
    record {
      answered = (first.answered, subst (λ i. AreAnswered i closed made) (sym first.after) others.answered);
      replies = ap (λ (r : SysReply). r ∷ batch_replies (input_after (input ++ more) call) made) first.reply
          ∙ ap (λ i. batch_reply input call ∷ batch_replies i made) first.after ∙ ap (λ (l : List SysReply). batch_reply input call ∷ l) others.replies;
      behind = ap (λ i. input_behind i made) first.after ∙ others.behind;
    }

-- ---- The text of cards

pub text_append : (cards more : List (List ℕ)) → text (cards ++ more) ≡ text cards ++ text more
text_append [] more = refl
text_append (card ∷ cards) more = ap (λ l. line_text card ++ l) (text_append cards more) ∙ sym (append_assoc (line_text card) (text cards) (text more))
