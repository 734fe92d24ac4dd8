-- The framer is the ledger: its numbers, the array of the frame being filled, the slots of the ring.
pub mod SlotLaws
pub mod MeterLaws
pub mod FillLaws
pub mod SimLaws
pub mod OutputLaws
