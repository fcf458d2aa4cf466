-- Replies that are related to their commands, but need not be determined by them.
use Rattle.std.specs.Prelude.{◌≡◌, ⊤, List, [], ◌∷◌, ◌++◌}

-- each reply is a valid reply to its command, where `after` is the state after a command
abbrev pub AreReplies : {S C R : Type 0} → (S → C → S) → (S → C → R → Type 0) → S → List C
    → List R → Type 0
AreReplies after IsReply s [] [] = ⊤
AreReplies after IsReply s [] (r ∷ rs) = ⊥
AreReplies after IsReply s (c ∷ cs) [] = ⊥
AreReplies after IsReply s (c ∷ cs) (r ∷ rs) =
    IsReply s c r × AreReplies after IsReply (after s c) cs rs

-- one such reply was appended
abbrev pub AppendsReply : {R : Type 0} → (R → Type 0) → List R → List R → Type 0
AppendsReply {R} IsReply old new = (r : R) × (new ≡ old ++ r ∷ []) × IsReply r
