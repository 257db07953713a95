pub mod RecordKinds
