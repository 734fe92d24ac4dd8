-- The ledger run by itself on P1 to P11 and P13 (docs/RULES.md, "Worked examples"): from the calls and answers of the table, with no
-- engine, its taken frames laid out are the bytes of the table, it has discarded and marked as failed as many as the table says, of
-- the clock it tells the numbers of the table, and it has a frame out exactly where `failed` was answered 0.
use Prim.Native.Nat.{ℕ, ◌+◌}
use mathlib.Core.Path.{◌≡◌, refl}
use mathlib.Core.List.{List, [], ◌∷◌, ◌++◌, map}
use lib.ListN.{take, replicate}
use Rattle.codec.specs.Choice.{pick}
use Rattle.codec.specs.Header.{header_bytes}
use Rattle.codec.specs.Item.{encode}
use Rattle.codec.specs.Layout.{layout}
use Rattle.mirror.specs.Call.{Call, Said}
use Rattle.mirror.specs.Row.{Row}
use Rattle.mirror.specs.Vectors.{p1, p2, p3, p4, p5, p6, p7, p8, p9}
use Rattle.mirror.specs.LaterVectors.{p10, p11, p11-first, p11_fifth, p13}
use Rattle.history.specs.Meaning.{can_state, meaning}
use Rattle.history.specs.Account.{fresh_account, kind_named, accounts_for, account_at, started_account, stopped_account, updated_account, differs, shows_by, report_event, reported_account, calls_for, state_event, ticked_account, changed}
use Rattle.history.specs.Ledger.{Ledger, empty_ledger, discard_count, state_in, item_in, size_in, taken_in, waiting_in, failure_count, sent_in, offset_in, line_for, closes_before, overdue, has_room, close, begin, enter, mirrored, passed, taken, is_out, failed}
use Rattle.history.specs.Deed.{Deed, done, ops_of, accounts_by, ledger_of}
use Rattle.history.specs.Clock.{behind, tells_by, says_by}
use Rattle.history.specs.Loss.{failed_in}
use Rattle.history.specs.History.{frames_taken}
use Rattle.history.proofs.Ground.Machine.{laid}

abbrev pub paired : List Call → List Said → List Deed
paired [] ss = []
paired (x ∷ xs) [] = []
paired (x ∷ xs) (s ∷ ss) = record { call = x; said = s } ∷ paired xs ss

abbrev pub later : {A : Type 0} → List A → List A
later [] = []
later (x ∷ xs) = xs

-- a row, and the setup that it begins with
pub record Case : Type 0 where
  pub size : ℕ
  pub room : ℕ
  pub deadline : ℕ
  pub pairs : List ℕ
  pub row : Row
  pub discarded : ℕ
  pub failed : ℕ

abbrev pub Begins : Case → Type 0
Begins t = t.row.calls ≡ Call.setup t.size t.room t.deadline t.pairs ∷ later t.row.calls

abbrev pub deeds : Case → List Deed
deeds t = paired (later t.row.calls) (later t.row.said)

abbrev pub ledger : Case → List Deed → Ledger
ledger t ds = ledger_of (record { size = t.size; room = t.room; deadline = t.deadline }) (accounts_for t.pairs) ds

-- of the clock, one deed after the other: what the ledger before it tells, and what the table says
abbrev pub tells : Case → List Deed → List Deed → List ℕ
tells t before [] = []
tells t before (d ∷ ds) = tells_by (ledger t before) d ++ tells t (before ++ (d ∷ [])) ds

abbrev pub says : List Deed → List ℕ
says [] = []
says (d ∷ ds) = says_by d ++ says ds

-- of `failed`, the same: what the ledger before it lets it be answered, and what the table says
abbrev pub allows : Case → List Deed → List Deed → List ℕ
allows t before [] = []
allows t before (d ∷ ds) =
    replicate (failed_in (meaning d.call)) (pick (is_out (ledger t before).sends) 0 17) ++ allows t (before ++ (d ∷ [])) ds

abbrev pub answers : List Deed → List ℕ
answers [] = []
answers (d ∷ ds) = replicate (failed_in (meaning d.call)) d.said.answer ++ answers ds

pub record Agrees (t : Case) : Type 0 where
  pub taken : map laid (taken_in (ledger t (deeds t))) ≡ frames_taken (deeds t)
  pub discards : discard_count (ledger t (deeds t)) ≡ t.discarded
  pub failures : failure_count (ledger t (deeds t)) ≡ t.failed
  pub tells : tells t [] (deeds t) ≡ says (deeds t)
  pub fails : allows t [] (deeds t) ≡ answers (deeds t)

abbrev pub AllAgree : List Case → Type 0
AllAgree [] = Unit
AllAgree (t ∷ ts) = (Begins t × Agrees t) × AllAgree ts

abbrev pub on : ℕ → ℕ → List ℕ → Row → ℕ → ℕ → Case
on size room pairs row discarded failed =
    record { size = size; room = room; deadline = 1; pairs = pairs; row = row; discarded = discarded; failed = failed }

abbrev pub last : Case
last = on 64 1 (1 ∷ 5 ∷ []) p11 1 2

abbrev pub cases : List Case
cases =
    on 64 1 (1 ∷ 5 ∷ []) p1 0 0 ∷ on 64 1 (1 ∷ 5 ∷ []) p2 0 0 ∷ on 64 2 (1 ∷ 5 ∷ []) p3 0 0 ∷ on 64 1 (1 ∷ 5 ∷ []) p4 0 0
    ∷ on 64 2 (1 ∷ 5 ∷ []) p5 0 0 ∷ on 32 1 (1 ∷ 5 ∷ []) p6 0 0 ∷ on 64 1 (3 ∷ 7 ∷ []) p7 0 0 ∷ on 64 1 (2 ∷ 1 ∷ 1 ∷ 5 ∷ []) p8 0 0
    ∷ on 64 1 (1 ∷ 5 ∷ []) p9 1 0 ∷ on 64 3 (1 ∷ 5 ∷ []) p10 0 0 ∷ on 64 1 (3 ∷ 7 ∷ []) p13 0 0 ∷ last ∷ []

pub examples : AllAgree cases
unfolding fresh_account kind_named account_at started_account stopped_account updated_account can_state differs shows_by report_event reported_account calls_for state_event
    ticked_account changed empty_ledger discard_count failure_count state_in item_in size_in taken_in waiting_in offset_in line_for closes_before overdue has_room close begin enter
    mirrored passed taken failed done ops_of accounts_by ledger_of behind tells_by says_by laid layout header_bytes encode
examples = (
  (refl, record { taken = refl; discards = refl; failures = refl; tells = refl; fails = refl }),
  (
    (refl, record { taken = refl; discards = refl; failures = refl; tells = refl; fails = refl }),
    (
      (refl, record { taken = refl; discards = refl; failures = refl; tells = refl; fails = refl }),
      (
        (refl, record { taken = refl; discards = refl; failures = refl; tells = refl; fails = refl }),
        (
          (refl, record { taken = refl; discards = refl; failures = refl; tells = refl; fails = refl }),
          (
            (refl, record { taken = refl; discards = refl; failures = refl; tells = refl; fails = refl }),
            (
              (refl, record { taken = refl; discards = refl; failures = refl; tells = refl; fails = refl }),
              (
                (refl, record { taken = refl; discards = refl; failures = refl; tells = refl; fails = refl }),
                (
                  (refl, record { taken = refl; discards = refl; failures = refl; tells = refl; fails = refl }),
                  (
                    (refl, record { taken = refl; discards = refl; failures = refl; tells = refl; fails = refl }),
                    (
                      (refl, record { taken = refl; discards = refl; failures = refl; tells = refl; fails = refl }),
                      ((refl, record { taken = refl; discards = refl; failures = refl; tells = refl; fails = refl }), tt),
                    ),
                  ),
                ),
              ),
            ),
          ),
        ),
      ),
    ),
  ),
)

-- the ledger after the first n calls of P11
abbrev pub after : ℕ → Ledger
after n = ledger last (take n (deeds last))

-- k calls later a receiver has no frame more, and these were lost
pub record Silent (n k discards failures : ℕ) : Type 0 where
  pub sent : sent_in (after (n + k)) ≡ sent_in (after n)
  pub discarded : discard_count (after (n + k)) ≡ discard_count (after n) + discards
  pub failed : failure_count (after (n + k)) ≡ failure_count (after n) + failures

-- what a receiver can have of P11, and what cannot be known of the tail: when the first frame is sent, when the second has failed,
-- and when the third has failed too and the fourth was discarded, a receiver has the first frame alone; the fifth shows a loss
pub record Received : Type 0 where
  pub whole : map laid (sent_in (ledger last (deeds last))) ≡ p11-first ∷ p11_fifth ∷ []
  pub second : Silent 7 6 0 1
  pub others : Silent 13 9 1 1

pub received : Received
unfolding fresh_account kind_named account_at started_account stopped_account updated_account differs shows_by report_event reported_account calls_for state_event
    ticked_account changed empty_ledger discard_count failure_count state_in item_in size_in taken_in sent_in waiting_in offset_in line_for closes_before overdue has_room close begin
    enter mirrored passed taken failed done ops_of accounts_by ledger_of laid layout header_bytes encode
received = record {
  whole = refl;
  second = record { sent = refl; discarded = refl; failed = refl };
  others = record { sent = refl; discarded = refl; failed = refl };
}
