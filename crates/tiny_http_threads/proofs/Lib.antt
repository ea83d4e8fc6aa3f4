pub mod TurnQueueLemmas
