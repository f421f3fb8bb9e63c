pub mod CertificateOfRun
