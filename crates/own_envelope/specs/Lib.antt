pub mod OwnEnvelope
